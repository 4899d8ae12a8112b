-- Every byte, and the first of a kind, by index. Assumes nothing.
use Prim.Native.Nat.{ℕ, suc, ◌+◌, ◌-◌, ◌≤◌, ◌<◌}
use mathlib.Core.Path.{◌≡◌, ap, sym, ◌∙◌}
use mathlib.Core.List.{List, [], ◌∷◌}
use native.Mathlib.Omega.{arith}
use lib.ListN.{length, get_or, drop}
use Rattle.std.proofs.lemmas.List.{get_or-drop}
use Rattle.base.specs.Logic.{Every}
use Rattle.harness.specs.Finding.{FirstFrom}

pub every_below : {P : ℕ → Type 0} (l : List ℕ) → ((i : ℕ) → i < length l → P (get_or l i 0)) → Every P l
every_below [] h = Every.none
every_below (x ∷ l) h = Every.more (h 0 (omega arith)) (every_below l (λ i lt. h (suc i) (omega arith)))

-- behind `at` the byte b stands i bytes further on, and nowhere before, if it stands there at all
pub first_from : (t : List ℕ) (at b i : ℕ) → at + i ≤ length t → ((j : ℕ) → j < i → get_or (drop at t) j 0 ≡ b → ⊥) → (at + i < length t → get_or (drop at t) i 0 ≡ b)
    → FirstFrom t at b (at + i)
first_from t at b i within before there =
    record {
      from = omega arith;
      within = within;
      before =
          λ j after lower is.
          let place : at + (j - at) ≡ j = omega arith in
          before (j - at) (omega arith) (get_or-drop at t (j - at) 0 ∙ ap (λ (k : ℕ). get_or t k 0) place ∙ is);
      there = λ lt. sym (get_or-drop at t i 0) ∙ there lt;
    }
