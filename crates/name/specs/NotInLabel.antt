-- What the tests of a name in canonical form count and compare: no meaning is defined by it.
use Rattle.std.specs.Prelude.{ℕ, ◌+◌, ◌≤◌, ◌<◌, Bool, cond, ◌||◌, ◌≡◌, List, [], ◌∷◌, eqb, get_or}
use Rattle.name.specs.Label.{is_lower, is_digit, lower}

-- a byte of a label in canonical form: a lower-case letter, a digit, a hyphen (45) or an underscore (95)
unfoldable pub is_canonical_label_byte : ℕ → Bool
is_canonical_label_byte b = is_lower b || is_digit b || eqb b 45 || eqb b 95

-- 1 for any other byte
unfoldable pub not_in_label : ℕ → ℕ
not_in_label b = cond (is_canonical_label_byte b) 0 1

-- how many others there are
unfoldable pub count_not_in_label : List ℕ → ℕ
count_not_in_label [] = 0
count_not_in_label (b ∷ n) = not_in_label b + count_not_in_label n

-- from index `from` on, and before index `to`, the bytes of m are those of n in lower case
abbrev pub Agree : List ℕ → List ℕ → ℕ → ℕ → Type 0
Agree n m from to = (j : ℕ) → from ≤ j → j < to → lower (get_or n j 0) ≡ get_or m j 0
