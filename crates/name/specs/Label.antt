-- A label of a domain name. Document 01, "Names" (docs/RULES.md, 3.1): 1 to 63 bytes, each a letter, a digit, a hyphen or an underscore.
use Rattle.std.specs.Prelude.{ℕ, ◌+◌, ◌≤◌, Bool, true, cond, ◌&&◌, ◌||◌, ◌≡◌, List, leb, eqb, length}
use Rattle.base.specs.Logic.{Every}

-- A to Z
unfoldable pub is_upper : ℕ → Bool
is_upper b = leb 65 b && leb b 90

-- a to z
unfoldable pub is_lower : ℕ → Bool
is_lower b = leb 97 b && leb b 122

-- 0 to 9
unfoldable pub is_digit : ℕ → Bool
is_digit b = leb 48 b && leb b 57

-- a letter, a digit, a hyphen (45) or an underscore (95)
unfoldable pub is_label_byte : ℕ → Bool
is_label_byte b = is_upper b || is_lower b || is_digit b || eqb b 45 || eqb b 95

pub record Label (l : List ℕ) : Type 0 where
  pub some : 1 ≤ length l
  pub short : length l ≤ 63
  pub bytes : Every (λ b. is_label_byte b ≡ true) l

-- RFC 4034, 6.2: an upper-case letter is replaced by the lower-case one, 32 above it; every other byte stays
unfoldable pub lower : ℕ → ℕ
lower b = cond (is_upper b) (b + 32) b
