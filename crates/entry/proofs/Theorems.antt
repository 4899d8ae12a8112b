-- The public theorems of `entry`; each is proved by citation. Assumes nothing.
use Prim.Native.Nat.{ℕ}
use mathlib.Core.Path.{◌≡◌}
use mathlib.Core.List.{List, [], ◌∷◌, map}
use Rattle.base.specs.Bytes.{ascii}
use Rattle.grammar.specs.Listing.{RecordType, ResourceRecord, Spells}
use Rattle.grammar.specs.Whole.{Sized}
use Rattle.grammar.proofs.Theorems.{sized_data}
use Rattle.entry.specs.Held.{held}
use Rattle.entry.specs.EntryAt.{record_before, entry_at}
use Rattle.entry.proofs.Examples.{commented}
use Rattle.entry.proofs.HeldLaws.{same_record, same_records}

-- a comment is no part of an entry's words: the text's one entry is read as its record, up to the text's end
pub entry_example : entry_at (ascii "a. A 1.2.3.4 ;a. A 1.2.3.4") 0 ≡ record_before (record { owner = 1 ∷ 97 ∷ 0 ∷ []; rtype = RecordType.A; rdata = 1 ∷ 2 ∷ 3 ∷ 4 ∷ [] }) 26
entry_example = commented

-- a place holds one record: `held` loses nothing of a record whose data are as long as its type has them. The zeros after owner and data are no part of
-- them, since the owner's length and the type stand in the place
pub held_one : (r q : ResourceRecord) → Sized r → Sized q → held r ≡ held q → r ≡ q
held_one r q size size' e = same_record r q size size' e

-- so a row of places holds one list: two lists that listings spell are the same if the places that hold them are
pub row_one : (t u : List ℕ) (rs qs : List ResourceRecord) → Spells t rs → Spells u qs → map held rs ≡ map held qs → rs ≡ qs
row_one t u rs qs s v e = same_records rs qs (sized_data t rs s) (sized_data u qs v) e
