-- How the data of an A and of an AAAA record are spelled. Document 01, "The listing's grammar" (docs/RULES.md, 6.1 and 6.3).
use Rattle.std.specs.Prelude.{ℕ, ◌/◌, ◌%◌, ◌≤◌, ◌<◌, ◌≡◌, List, [], ◌∷◌, map, length}
use Prim.Native.Char.{code}
use Rattle.base.specs.Bytes.{in_bytes}
use Rattle.base.specs.Logic.{Every, Pairwise}
use Rattle.text.specs.Digits.{Number, separated, decimal, hex_digit}

-- how an A record's data are written: a decimal number for each byte, with dots between them
unfoldable pub written_a : List ℕ → List ℕ
written_a bs = separated (code ".") (map (decimal 3) bs)

-- the word w spells the four bytes bs: it is what is written for them, so that no number has a leading zero
pub record SpellsA (w bs : List ℕ) : Type 0 where
  pub word : w ≡ written_a bs
  pub bytes : Every (λ b. b < 256) bs
  pub four : length bs ≡ 4

-- a group of one to four hexadecimal digits
pub record Group (p : List ℕ) (n : ℕ) : Type 0 where
  pub hexadecimal : Number 16 p n
  pub short : length p ≤ 4

-- the word w spells the sixteen bytes bs: eight groups with colons between them, two bytes each, the high byte first
pub record SpellsAAAA (w bs : List ℕ) : Type 0 where
  pub parts : List (List ℕ)
  pub numbers : List ℕ
  pub word : w ≡ separated (code ":") parts
  pub groups : Pairwise Group parts numbers
  pub eight : length numbers ≡ 8
  pub bytes : bs ≡ in_bytes 2 numbers

-- how an AAAA record's data are written: four lower-case digits for each two bytes, with colons
unfoldable pub four_of : ℕ → ℕ → List ℕ
four_of a b = hex_digit (a / 16) ∷ hex_digit (a % 16) ∷ hex_digit (b / 16) ∷ hex_digit (b % 16) ∷ []

unfoldable pub four_digits : List ℕ → List (List ℕ)
four_digits [] = []
four_digits (a ∷ []) = []
four_digits (a ∷ b ∷ bs) = four_of a b ∷ four_digits bs

unfoldable pub written_aaaa : List ℕ → List ℕ
written_aaaa bs = separated (code ":") (four_digits bs)
