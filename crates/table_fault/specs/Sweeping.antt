-- What a sweep over the entries of a listing keeps, and what the functions below `judge` promise one another. A reader of what `judge` finds need not know it: that is specs/Judging.antt.
-- An example, the three entries `a. A 1.2.3.4` at the offset 0, `b. A 1.2.3.4` at 13 and `A. AAAA 1:2:3:4:5:6:7:8` at 26. The first two names are new and are kept (`AllMarked`): by the offsets 0 and
-- 13, and by the marks of their bytes 1 97 0 and 1 98 0, which are 1015811 and 1023747; each has the flag 1 of an A. At the third entry (`SweptIs`, `Met`) the mark is the first one's, and so is the
-- name, which is read again at the offset 0: its index is 0, and its flag 2 is not set yet. The sweep ends as `Whole` with the slots 0 1 0. Were the third an A, it would be `Repeat`; and had there
-- been room for one name alone, `Beyond` 13: from there on the records are swept again.
use Rattle.std.specs.Prelude.{ℕ, ◌+◌, ◌*◌, ◌%◌, ◌^◌, ◌≤◌, ◌<◌, true, false, cond, ◌≡◌, ◌⊎◌, List, [], ◌∷◌, ◌++◌, eqb, length, take, drop, get_or}
use Rattle.base.specs.Refusal.{record_repeated, table_full}
use Rattle.base.specs.declared.Answer.{Answer}
use Rattle.base.specs.declared.Answer.TheVariants.{Refused}
use Rattle.grammar.specs.Listing.{ResourceRecord, Owner}
use Rattle.entry.specs.Held.{type_number}
use Rattle.listing.specs.Giving.{Last, end, refusal, Gives}
use Rattle.records.specs.Gathered.{Single, owners}
use Rattle.slots.specs.Sizes.{field_bit}
use Rattle.slots.specs.declared.Rtype.TheVariants.{A, Aaaa, Dhcid}
use Rattle.table_fault.specs.Judging.{IndexOf, Placed}
use Rattle.table_fault.specs.declared.Swept.{Swept}
use Rattle.table_fault.specs.declared.SweepOutcome.{SweepOutcome}
use Rattle.table_fault.specs.declared.SweepOutcome.TheVariants as outcome

-- ---- names by a number, so that most that differ are told apart at once

unfoldable pub hashed : ℕ → List ℕ → ℕ
hashed h [] = h
hashed h (b ∷ n) = hashed ((h * 31 + b) % 2 ^ 32) n

-- a number and a length in one
unfoldable pub tagged : ℕ → ℕ → ℕ
tagged h len = h % 2 ^ 24 * 256 + len % 256

-- by the first 32 bytes and the length
unfoldable pub mark : List ℕ → ℕ
mark n = tagged (hashed 0 (take 32 n)) (length n)

-- the flag of a record type, as in a slot, by the type's number: 1 is A, 28 AAAA, any other DHCID
abbrev pub type_bit : ℕ → ℕ
type_bit n = cond (eqb n 1) (field_bit A) (cond (eqb n 28) (field_bit Aaaa) (field_bit Dhcid))

-- ---- the names that a sweep has kept

-- a listing that is right from the offset at on
unfoldable pub Faultless : List ℕ → ℕ → Type 0
Faultless t at = (rs : List ResourceRecord) × Gives t at rs end

-- the text u begins with a word that is the name n in text
pub record BeginsWith (u n : List ℕ) : Type 0 where
  pub word : List ℕ
  pub rest : List ℕ
  pub cut : u ≡ word ++ rest
  pub owner : Owner word n

-- at the offset `at` of the listing t stands the name n, and m is its mark
pub record MarkedAt (t : List ℕ) (at m : ℕ) (n : List ℕ) : Type 0 where
  pub there : BeginsWith (drop at t) n
  pub marked : m ≡ mark n

-- the offsets and the marks of the names ns
unfoldable pub AllMarked : List ℕ → List ℕ → List ℕ → List (List ℕ) → Type 0
AllMarked t starts marks ns = (j : ℕ) → j < length ns → MarkedAt t (get_or starts j 0) (get_or marks j 0) (get_or ns j [])

-- those of some names, so many
unfoldable pub SomeMarked : List ℕ → List ℕ → List ℕ → ℕ → Type 0
SomeMarked t starts marks used = (ns : List (List ℕ)) × (used ≡ length ns) × AllMarked t starts marks ns

-- ---- one entry

-- it is the first of the records rs, with where its name stands among the names kept; l comes after them all
pub record Met (t : List ℕ) (at : ℕ) (ns : List (List ℕ)) (rs : List ResourceRecord) (l : Last) (s : Swept) : Type 0 where
  pub head : ResourceRecord
  pub later : List ResourceRecord
  pub order : rs ≡ head ∷ later
  pub gives : Gives t s.next later l
  pub owner : BeginsWith (drop at t) head.owner
  pub there : IndexOf ns head.owner s.index
  pub marked : s.mark ≡ mark head.owner
  pub bit : s.bit ≡ type_bit (type_number head.rtype)

-- what the entry at `at` is, whatever the listing has to give from there on: faulty, no record, or a record
pub record SweptIs (t : List ℕ) (at : ℕ) (ns : List (List ℕ)) (s : Swept) : Type 0 where
  pub on : at < s.next
  pub fault : s.faulty ≡ true → (rs : List ResourceRecord) (l : Last) → Gives t at rs l → l ≡ refusal s.number at
  pub nothing : s.faulty ≡ false → s.found ≡ false → (rs : List ResourceRecord) (l : Last) → Gives t at rs l → Gives t s.next rs l
  pub met : s.found ≡ true → (rs : List ResourceRecord) (l : Last) → Gives t at rs l → Met t at ns rs l s

-- ---- what a sweep finds over the records rs, after which l comes, with room for so many names; their slots are left in ps, which was ps₀

-- from the offset `at` on the records `left` are given, of which as much is still to be asked as of rs; and rs have more names than there is room for
pub record Beyond (t : List ℕ) (from places : ℕ) (rs : List ResourceRecord) (at : ℕ) : Type 0 where
  pub left : List ResourceRecord
  pub gives : Gives t at left end
  pub on : from < at
  pub within : at < length t
  pub forth : Single left → Single rs
  pub back : Single rs → Single left
  pub many : places < length (owners rs)

-- from index k on ps is what ps₀ is
unfoldable pub SameFrom : ℕ → List ℕ → List ℕ → Type 0
SameFrom k ps₀ ps = (j : ℕ) → k ≤ j → get_or ps j 0 ≡ get_or ps₀ j 0

abbrev pub Sweeps : List ℕ → ℕ → ℕ → List ResourceRecord → Last → List ℕ → List ℕ → SweepOutcome → Type 0
Sweeps t from places rs l ps₀ ps (outcome.Fault n offset) = l ≡ refusal n offset
Sweeps t from places rs l ps₀ ps (outcome.Repeat at) = (Single rs → ⊥) × ((qs : List ResourceRecord) × Gives t at qs l)
Sweeps t from places rs l ps₀ ps outcome.Whole = (l ≡ end) × Single rs × (length (owners rs) ≤ places) × Placed rs ps × SameFrom (length rs) ps₀ ps
Sweeps t from places rs l ps₀ ps (outcome.Beyond at) = (l ≡ end) × Beyond t from places rs at

-- by where the first record stands whose name was not kept; the listing's length if there is none
abbrev pub ended_at : ℕ → ℕ → SweepOutcome
ended_at len rest = cond (eqb rest len) outcome.Whole (outcome.Beyond rest)

-- ---- the first fault of a listing and of its records

-- of records that have too many names anyway
unfoldable pub RepeatOrFull : List ResourceRecord → ℕ → Type 0
RepeatOrFull rs n = ((n ≡ record_repeated) × (Single rs → ⊥)) ⊎ ((n ≡ table_full) × Single rs)

-- the refusal that comes after the records, or that with the number n
abbrev pub fault_or : ℕ → Last → Answer
fault_or n end = Refused n 0
fault_or n (refusal m p) = Refused m p
