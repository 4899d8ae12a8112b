-- What the reader that holds on to a listing gives, one answer at a time. Document 01, "The listing's grammar", last paragraph (docs/RULES.md, 6.6):
-- every record that stands before the first fault, and then that fault's refusal over and over, or the end where there is none; over the limit
-- nothing but 17.
use Rattle.std.specs.Prelude.{ℕ, zero, suc, ◌+◌, ◌≤◌, ◌<◌, true, false, ◌≡◌, List, [], ◌∷◌, length, drop}
use Rattle.base.specs.Refusal.{listing_long}
use Rattle.grammar.specs.Listing.{outside, Words, ResourceRecord, RecordEntry, Spells}
use Rattle.grammar.specs.Faults.{Refused}
use Rattle.entry.specs.Held.{held, empty_record}
use Rattle.entry.specs.EntryText.{EntryText}
use Rattle.listing.specs.Reading.{limit}
use Rattle.listing.specs.Found.{Told, told}
use Rattle.listing.specs.declared.Found.{Found}
use Rattle.listing.specs.declared.Found.TheVariants as found
use Rattle.listing.specs.declared.Step.{Step}

-- ---- what has to be given

-- the answer when no record is left: the end; or a refusal, by its number and its offset
pub data Last : Type 0 where
  end : Last
  refusal : ℕ → ℕ → Last

-- a reader of the text t that stands at the offset at has to give the records rs, and then the last answer, forever. Over the limit that is 17 at 0; within
-- it, what the text from there on spells, and the end; or what the entries before its first faulty one spell, and that refusal, at its offset in t
pub data Gives (t : List ℕ) (at : ℕ) : List ResourceRecord → Last → Type 0 where
  too_long : limit < length t → Gives t at [] (refusal listing_long 0)
  whole : {rs : List ResourceRecord} → length t ≤ limit → Spells (drop at t) rs → Gives t at rs end
  faulty : {rs : List ResourceRecord} {n p offset : ℕ} → length t ≤ limit → Refused (drop at t) rs n p → offset ≡ at + p → Gives t at rs (refusal n offset)

-- ---- the next answer

-- what is said where a record is given; and what the last answer is
abbrev pub record_told : ResourceRecord → Told
record_told r = record { refused = false; number = 0; offset = 0; count = 1; «record» = held r }

abbrev pub last_told : Last → Told
last_told end = record { refused = false; number = 0; offset = 0; count = 0; «record» = empty_record }
last_told (refusal n offset) = record { refused = true; number = n; offset = offset; count = 0; «record» = empty_record }

-- the step s is the next answer where the records rs and then l have to be given: the first record, and from the step's offset on the others; or l, and
-- from there on l again
abbrev pub NextAnswer : List ℕ → List ResourceRecord → Last → Step → Type 0
NextAnswer t [] l s = (told s ≡ last_told l) × Gives t s.next [] l
NextAnswer t (r ∷ rs) l s = (told s ≡ record_told r) × Gives t s.next rs l

-- of a step from the offset at on: whatever has to be given, it is the next answer of it
unfoldable pub Answers : List ℕ → ℕ → Step → Type 0
Answers t at s = (rs : List ResourceRecord) (l : Last) → Gives t at rs l → NextAnswer t rs l s

-- ---- where it goes on

-- the entries of t from the offset at up to i have no words
pub data NoWords (t : List ℕ) : ℕ → ℕ → Type 0 where
  none : {at : ℕ} → NoWords t at at
  more : {at i j : ℕ} (e : List ℕ) → EntryText t at e i → Words outside e [] → NoWords t i j → NoWords t at j

-- after entries with no words comes one that spells a record, and the next one begins at next
pub record RecordUpTo (t : List ℕ) (at next : ℕ) : Type 0 where
  pub from : ℕ
  pub passed : NoWords t at from
  pub entry : List ℕ
  pub stands : EntryText t from entry next
  pub «record» : ResourceRecord
  pub spells : RecordEntry entry «record»

-- by what was found: behind the record's entry; at the text's end, or where it stood if that is beyond it; at the faulty entry, or over the limit where it stood
abbrev pub GoesOn : List ℕ → ℕ → Found → ℕ → Type 0
GoesOn t at found.Record next = RecordUpTo t at next
GoesOn t at found.End next = (at ≤ length t → next ≡ length t) × (length t ≤ at → next ≡ at)
GoesOn t at (found.Refused n offset) next = (length t ≤ limit → next ≡ offset) × (limit < length t → next ≡ at)

-- what a step from the offset at on promises. One step keeps it (proofs/Theorems.antt, `one_step`)
pub record StepIs (t : List ℕ) (at : ℕ) (s : Step) : Type 0 where
  pub is_next : Answers t at s
  pub goes_on : GoesOn t at s.found s.next

-- ---- asked again and again

-- the steps ss are the answers of a reader of t from the offset at on, each asked where the one before has left it
pub data Asked (t : List ℕ) : ℕ → List Step → Type 0 where
  none : {at : ℕ} → Asked t at []
  more : {at : ℕ} {s : Step} {ss : List Step} → Answers t at s → Asked t s.next ss → Asked t at (s ∷ ss)

-- the first k answers: the records in order, and then the last answer again and again
unfoldable pub answers : ℕ → List ResourceRecord → Last → List Told
answers zero rs l = []
answers (suc k) [] l = last_told l ∷ answers k [] l
answers (suc k) (r ∷ rs) l = record_told r ∷ answers k rs l
