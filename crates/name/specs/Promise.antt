-- What the functions that read and write names promise beyond the definitions of Name.antt.
use Rattle.std.specs.Prelude.{ℕ, zero, suc, cond, ◌≡◌, List, [], ◌∷◌, ◌++◌, Option, Some, None, eqb, length}
use Rattle.base.specs.Bytes.{ascii, padded}
use Rattle.name.specs.Name.{SpellsName, canonical}
use Rattle.name.specs.declared.WireName.{WireName}

-- the word w was a proper name in text, and r is its canonical wire form
pub record Reads (w : List ℕ) (r : Option WireName) : Type 0 where
  pub wire : List ℕ
  pub spells : SpellsName w wire
  pub is : r ≡ Some (record { bytes = padded (canonical wire); len = length wire })

-- w is no proper name in text, and r is none
pub record ReadsNone (w : List ℕ) (r : Option WireName) : Type 0 where
  pub none : (n : List ℕ) → SpellsName w n → ⊥
  pub is : r ≡ None

-- the length of the label that stands first in text: so many bytes come before the first dot (46)
unfoldable pub lead : List ℕ → ℕ
lead [] = 0
lead (b ∷ w) = cond (eqb b 46) 0 (suc (lead w))

-- the text of wire bytes, whatever they are: the first length byte is left out, each later one is a dot, which ends the label before it, and the
-- other bytes stand as they are. Of a name it is the name's text (the theorem spelled)
unfoldable pub dotted : ℕ → List ℕ → List ℕ
dotted left [] = []
dotted zero (b ∷ n) = ascii "." ++ dotted b n
dotted (suc left) (b ∷ n) = b ∷ dotted left n

unfoldable pub text_of : List ℕ → List ℕ
text_of [] = []
text_of (b ∷ n) = dotted b n
