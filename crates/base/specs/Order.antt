-- The order of a call's refusals. Document 01 (docs/RULES.md, 2.3) gives it as a row of numbers, one for each thing that is tested; the first test
-- that fails decides.
use Rattle.std.specs.Prelude.{ℕ, ◌≡◌, ◌⊎◌, List, [], ◌∷◌}

-- what has to hold, and the number that is given where it does not
pub record Test : Type 1 where
  pub number : ℕ
  pub holds : Type 0

-- they all hold
abbrev pub AllHold : List Test → Type 0
AllHold [] = Unit {0}
AllHold (t ∷ ts) = t.holds × AllHold ts

-- n is the number of the first that does not
abbrev pub FirstFault : List Test → ℕ → Type 0
FirstFault [] n = ⊥
FirstFault (t ∷ ts) n = ((t.holds → ⊥) × (n ≡ t.number)) ⊎ (t.holds × FirstFault ts n)
