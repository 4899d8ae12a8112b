-- The test of a proper name, byte by byte, for promises that are equations. No meaning is defined by it: proofs/WireLaws.antt proves that it decides `Proper`.
use Rattle.std.specs.Prelude.{ℕ, zero, suc, Bool, true, false, cond, ◌&&◌, not, List, [], ◌∷◌, leb, eqb, length, get_or}
use Rattle.name.specs.Label.{is_label_byte}

-- the list is empty
abbrev pub is_nil : List ℕ → Bool
is_nil [] = true
is_nil (b ∷ n) = false

-- n is what is left of a name whose label has k bytes to come: these, then labels with their lengths, then a zero byte, and nothing after it
unfoldable pub accepts : ℕ → List ℕ → Bool
accepts k [] = false
accepts zero (b ∷ n) = cond (eqb b 0) (is_nil n) (leb b 63 && accepts b n)
accepts (suc k) (b ∷ n) = is_label_byte b && accepts k n

-- it does not begin with its zero byte, has at most 255 bytes, and these are labels and a zero byte
unfoldable pub is_proper : List ℕ → Bool
is_proper n = not (eqb (get_or n 0 0) 0) && leb (length n) 255 && accepts 0 n
