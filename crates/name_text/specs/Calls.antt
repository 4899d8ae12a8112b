-- Names in text for a host: what is answered, and what is left in the output. Document 01, "Names" (docs/RULES.md, 3): the text of a name, as an
-- owner in a listing has it, and its canonical wire form. The two calls are not document 01's: docs/DECISIONS.md; docs/RULES.md, 8.2. Both refuse 9,
-- then 13.
use Rattle.std.specs.Prelude.{ℕ, ◌≤◌, ◌<◌, ◌≡◌, List, length}
use Rattle.base.specs.Bytes.{overlay}
use Rattle.base.specs.Refusal.{no_proper_name, output_short}
use Rattle.base.specs.declared.Answer.{Answer}
use Rattle.base.specs.declared.Answer.TheVariants.{Accepted, Refused}
use Rattle.name.specs.Name.{Proper, SpellsName, canonical}

-- the text w was read into an output that held `out` and now holds `left`: the name n that it spells, in canonical form; r was answered
pub data ReadsText (w out : List ℕ) (r : Answer) (left : List ℕ) : Type 0 where
  no_name : ((n : List ℕ) → SpellsName w n → ⊥) → r ≡ Refused no_proper_name 0 → left ≡ out → ReadsText w out r left
  short : {n : List ℕ} → SpellsName w n → length out < length n → r ≡ Refused output_short 0 → left ≡ out → ReadsText w out r left
  read : {n : List ℕ} → SpellsName w n → length n ≤ length out → r ≡ Accepted (length n) → left ≡ overlay out 0 (canonical n) → ReadsText w out r left

-- the name n, in wire form and in either case, was written into an output that held `out` and now holds `left`: the text w, in lower case; r was answered
pub data WritesText (n out : List ℕ) (r : Answer) (left : List ℕ) : Type 0 where
  not_proper : (Proper n → ⊥) → r ≡ Refused no_proper_name 0 → left ≡ out → WritesText n out r left
  short : Proper n → {w : List ℕ} → SpellsName w (canonical n) → length out < length w → r ≡ Refused output_short 0 → left ≡ out → WritesText n out r left
  written : Proper n → {w : List ℕ} → SpellsName w (canonical n) → length w ≤ length out → r ≡ Accepted (length w) → left ≡ overlay out 0 w → WritesText n out r left
