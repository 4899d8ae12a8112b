-- Sets of ASCII bytes: a set is the right one if it is so at each byte below 128, by computing, and no byte above belongs to it. Assumes nothing.
use Prim.Native.Nat.{ℕ, ◌/◌, ◌%◌, ◌^◌, ◌≤◌}
use mathlib.Core.Bool.{Bool, true, false, not, cond, ◌&&◌}
use mathlib.Core.Path.{◌≡◌, refl, sym, ap, ◌∙◌}
use lib.Dec.{ltb, eqb}
use borrow.Author.Tests.{ltb-true, ltb-false}
use Rattle.base.specs.Ascii.{is_in}
use Rattle.base.proofs.Tests.{below, at_each}

-- two answers are the same
abbrev pub same : Bool → Bool → Bool
same a b = cond a b (not b)

pub same_is : (a b : Bool) → same a b ≡ true → a ≡ b
same_is true true e = refl
same_is true false e = sym e
same_is false true e = e
same_is false false e = refl

above_none : (low high b : ℕ) → ltb b 128 ≡ false → is_in low high b ≡ false
unfolding is_in
above_none low high b e = ap (λ (t : Bool). t && eqb (cond (ltb 63 b) high low / 2 ^ (b % 64) % 2) 1) e

pub set_of : (low high : ℕ) (p : ℕ → Bool) → below (λ b. same (is_in low high b) (p b)) 128 ≡ true → ((b : ℕ) → 128 ≤ b → p b ≡ false) → (b : ℕ) → is_in low high b ≡ p b
set_of low high p each above b = go (ltb b 128) refl
  where
    go : (t : Bool) → ltb b 128 ≡ t → is_in low high b ≡ p b
    go true e = same_is (is_in low high b) (p b) (at_each (λ k. same (is_in low high k) (p k)) 128 each b (ltb-true b 128 e))
    go false e = above_none low high b e ∙ sym (above b (ltb-false b 128 e))
