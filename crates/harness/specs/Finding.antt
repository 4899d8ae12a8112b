-- Where a byte stands in others.
use Rattle.std.specs.Prelude.{ℕ, ◌≤◌, ◌<◌, ◌≡◌, List, length, get_or}

-- i is the first index from `at` on at which the byte b stands in t; or, where it stands at none, the end
pub record FirstFrom (t : List ℕ) (at b i : ℕ) : Type 0 where
  pub from : at ≤ i
  pub within : i ≤ length t
  pub before : (j : ℕ) → at ≤ j → j < i → get_or t j 0 ≡ b → ⊥
  pub there : i < length t → get_or t i 0 ≡ b
