-- The test of a name in text, and the name that it is, byte by byte, for the function that reads an owner (grammar, specs/OwnerReader.antt). A reader need
-- not know it: no meaning is defined by it, and proofs/TextLaws.antt proves that it decides whether a word is the text of labels, and finds their wire form.
use Rattle.std.specs.Prelude.{ℕ, Bool, false, cond, ◌&&◌, List, [], ◌∷◌, leb, eqb}
use Rattle.name.specs.Label.{is_label_byte, lower}
use Rattle.name.specs.Promise.{lead}
use Rattle.name.specs.ProperTest.{is_nil}

-- the wire form but for its first length: a dot gives way to the length of the label after it
unfoldable pub shifted : List ℕ → List ℕ
shifted [] = []
shifted (b ∷ w) = cond (eqb b 46) (lead w) (lower b) ∷ shifted w

-- the rest of a label, at most 63 bytes, its dot, and labels each with a dot
unfoldable pub valid : List ℕ → Bool
valid [] = false
valid (b ∷ w) = cond (is_nil w) (eqb b 46) (cond (eqb b 46) (leb 1 (lead w)) (is_label_byte b && leb (lead w) 62) && valid w)
