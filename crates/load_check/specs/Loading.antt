-- What the program says of a listing: what a load would answer, and, where that is 35, which two records are alike. The number of names is that of `owners`
-- (records, specs/Gathered.antt). Of the bytes that go to C's write no contract can speak.
use Rattle.std.specs.Prelude.{ℕ, ◌≤◌, ◌≡◌, List, [], ◌∷◌, ◌++◌, length}
use Rattle.base.specs.Bytes.{ascii}
use Rattle.base.specs.Refusal.{table_full, record_repeated}
use Rattle.base.specs.declared.Answer.{Answer}
use Rattle.name.specs.Promise.{text_of}
use Rattle.grammar.specs.Listing.{outside, Words, mnemonic, ResourceRecord, RecordEntry}
use Rattle.entry.specs.EntryText.{EntryText}
use Rattle.writer.specs.Line.{Holds}
use Rattle.listing.specs.Reading.{limit}
use Rattle.listing.specs.Giving.{end, Gives}
use Rattle.slots.specs.Sizes.{most_names, table_size}
use Rattle.records.specs.Calls.{Loads}
use Rattle.records.specs.Gathered.{Single}
use Rattle.load_check.specs.declared.Repeat.{Repeat}

-- a is what a load of the listing t answers, whatever the area holds that has room for a table
unfoldable pub LoadAnswers : List ℕ → Answer → Type 0
LoadAnswers t a = (area : List ℕ) → table_size ≤ length area → (left : List ℕ) × Loads limit most_names t area a left

-- ---- two records alike

-- a record of a listing, and the offset at which its entry begins
pub record Entered : Type 0 where
  pub offset : ℕ
  pub «record» : ResourceRecord

unfoldable pub records : List Entered → List ResourceRecord
records [] = []
records (x ∷ es) = x.«record» ∷ records es

-- the entries of the listing t from an offset on up to the offset `to`, one after the other: es are those that spell a record
pub data EntriesUpTo (t : List ℕ) (to : ℕ) : ℕ → List Entered → Type 0 where
  none : EntriesUpTo t to to []
  no_record : {at next : ℕ} {es : List Entered} (e : List ℕ) → EntryText t at e next → Words outside e [] → EntriesUpTo t to next es → EntriesUpTo t to at es
  a_record : {at next : ℕ} {es : List Entered} (e : List ℕ) (r : ResourceRecord) → EntryText t at e next → RecordEntry e r → EntriesUpTo t to next es
      → EntriesUpTo t to at (record { offset = at; «record» = r } ∷ es)

-- which two records of the listing t are alike: of the entries up to the one at `second` no two before that one are of one owner and type, and it is of those
-- of the earlier one
pub record FirstRepeat (t : List ℕ) (r : Repeat) : Type 0 where
  pub before : List Entered
  pub earlier : Entered
  pub between : List Entered
  pub later : Entered
  pub next : ℕ
  pub entries : EntriesUpTo t next 0 ((before ++ earlier ∷ between) ++ later ∷ [])
  pub single : Single (records (before ++ earlier ∷ between))
  pub owner : earlier.«record».owner ≡ later.«record».owner
  pub type : earlier.«record».rtype ≡ later.«record».rtype
  pub first : r.first ≡ earlier.offset
  pub second : r.second ≡ later.offset
  pub held : Holds r.«record» later.«record»

-- ---- when what is said

-- the listing is right
unfoldable pub Right : List ℕ → Type 0
Right t = (rs : List ResourceRecord) × Gives t 0 rs end

-- and two of its records are alike
unfoldable pub Repeated : List ℕ → Type 0
Repeated t = (rs : List ResourceRecord) × Gives t 0 rs end × (Single rs → ⊥)

-- of a listing that is refused with the number n there is more to be said: after 35 which records, after 32 how many names
pub record Explains (t : List ℕ) (n : ℕ) : Type 0 where
  pub repeated : n ≡ record_repeated → Repeated t
  pub full : n ≡ table_full → Right t

-- ---- the owner and the type of a record, as its line begins

unfoldable pub heading : ResourceRecord → List ℕ
heading r = text_of r.owner ++ ascii " " ++ mnemonic r.rtype

-- no more bytes: 254 of a name, a blank, 5 of a type
abbrev pub longest_head : ℕ
longest_head = 260
