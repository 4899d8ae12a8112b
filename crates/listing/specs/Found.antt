-- What a step of the reader says, in document 01's terms, for each case of what it has found. "Refusal numbers" (docs/RULES.md, 2.1): every refusal
-- returns its number and, reading a listing, a place, with count 0 and any returned part empty, and is told apart from an accepted answer. The words
-- are those of `base` (specs/Answer.antt).
use Rattle.std.specs.Prelude.{ℕ, Bool, true, false}
use Rattle.entry.specs.declared.Record.{Record}
use Rattle.listing.specs.declared.Found.{Found}
use Rattle.listing.specs.declared.Found.TheVariants as found
use Rattle.listing.specs.declared.Step.{Step}

-- a refusal, and no accepted answer
abbrev pub is_refused : Found → Bool
is_refused found.Record = false
is_refused found.End = false
is_refused (found.Refused n o) = true

-- the refusal's number; 0, which is no refusal's, for a record and for the end
abbrev pub number : Found → ℕ
number found.Record = 0
number found.End = 0
number (found.Refused n o) = n

-- document 01's place (docs/RULES.md, 1.3): the offset in the listing of the first faulty entry; 0 for a record and for the end, and where no entry is at fault
abbrev pub offset : Found → ℕ
offset found.Record = 0
offset found.End = 0
offset (found.Refused n o) = o

-- how many records are answered: one, or none at the end and where it was refused
abbrev pub count : Found → ℕ
count found.Record = 1
count found.End = 0
count (found.Refused n o) = 0

-- all that a step says of the listing: these four, and the bytes of the record, which are zeros where there is none. No two answers say the same (proofs/FoundLaws.antt, `told_one`)
pub record Told : Type 0 where
  pub refused : Bool
  pub number : ℕ
  pub offset : ℕ
  pub count : ℕ
  pub «record» : Record

abbrev pub told : Step → Told
told s = record { refused = is_refused s.found; number = number s.found; offset = offset s.found; count = count s.found; «record» = s.«record» }
