-- Laws on tests, true or false. Assumes nothing.
use Prim.Native.Nat.{ℕ, zero, suc, ◌≤◌, ◌<◌}
use mathlib.Core.Bool.{Bool, true, false, ◌&&◌, and-false, true≢false, false≢true}
use mathlib.Core.Path.{◌≡◌, refl, sym, ap, ap₂, subst, ◌∙◌}
use mathlib.Core.Logic.{⊎_elim}
use mathlib.Core.List.{List, [], ◌∷◌}
use native.Mathlib.Nat.{eq-or-lt_of_le, le_of_suc-le-suc, not-suc-le-zero}
use lib.Dec.{leb, ltb, eqb}
use borrow.Author.Tests.{le-leb, lt-leb, ltb-true, ltb-false, eqb-true, eq-eqb}
use Rattle.base.specs.Bytes.{eq_bytes}
use Rattle.base.specs.Logic.{Decides}

pub and_left : (a b : Bool) → (a && b) ≡ true → a ≡ true
and_left true b e = refl
and_left false b e = e

pub and_right : (a b : Bool) → (a && b) ≡ true → b ≡ true
and_right true b e = e
and_right false true e = refl
and_right false false e = e

-- ---- a number in a range

module _ (low b high : ℕ) where
  pub within : low ≤ b → b ≤ high → (leb low b && leb b high) ≡ true
  within above below = λ i. le-leb low b above i && le-leb b high below i

  pub under : b < low → (leb low b && leb b high) ≡ false
  under below = ap (λ (t : Bool). t && leb b high) (lt-leb low b below)

  pub over : high < b → (leb low b && leb b high) ≡ false
  over above = ap (λ (t : Bool). leb low b && t) (lt-leb b high above) ∙ and-false (leb low b)

-- ---- deciding

-- by which of two numbers is the greater
pub by_ltb : {P : Type 0} (a b : ℕ) → (a < b → P) → (b ≤ a → P) → P
by_ltb {P} a b f g = go (ltb a b) refl
  where
    go : (t : Bool) → ltb a b ≡ t → P
    go true e = f (ltb-true a b e)
    go false e = g (ltb-false a b e)

-- an answer that is known decides a statement that is known to hold, or not to
pub yes_by : {P : Type 0} → P → Decides true P
yes_by p = record { if_true = λ t. p; if_false = λ f. absurd (true≢false f) }

pub no_by : {P : Type 0} → (P → ⊥) → Decides false P
no_by h = record { if_true = λ t. absurd (false≢true t); if_false = λ f. h }

-- an answer to a question answers another that comes to the same
pub decides_as : {b : Bool} {P Q : Type 0} → (P → Q) → (Q → P) → Decides b P → Decides b Q
decides_as f g d = record { if_true = λ t. f (d.if_true t); if_false = λ t q. d.if_false t (g q) }

-- what holds is answered by true
pub passes : {P : Type 0} (b : Bool) → Decides b P → P → b ≡ true
passes true d p = refl
passes false d p = absurd (d.if_false refl p)

-- two answers, both of them
pub both : {P Q : Type 0} (a b : Bool) → Decides a P → Decides b Q → Decides (a && b) (P × Q)
both true true d g = yes_by (d.if_true refl, g.if_true refl)
both true false d g = no_by (λ h. g.if_false refl h.1)
both false true d g = no_by (λ h. d.if_false refl h.0)
both false false d g = no_by (λ h. d.if_false refl h.0)

-- ---- every number below another

-- a test passes at every number below n: by computing, for a law on so many cases
unfoldable pub below : (ℕ → Bool) → ℕ → Bool
below p zero = true
below p (suc n) = p n && below p n

pub at_each : (p : ℕ → Bool) (n : ℕ) → below p n ≡ true → (v : ℕ) → v < n → p v ≡ true
unfolding below
at_each p zero h v l = absurd (not-suc-le-zero l)
at_each p (suc n) h v l =
    ⊎_elim (λ e. subst (λ (k : ℕ). p k ≡ true) (sym e) (and_left (p n) (below p n) h)) (λ k. at_each p n (and_right (p n) (below p n) h) v k) (eq-or-lt_of_le (le_of_suc-le-suc l))

-- ---- two lists of bytes are the same

-- true: the lists are equal
pub eq_bytes_true : (a b : List ℕ) → eq_bytes a b ≡ true → a ≡ b
unfolding eq_bytes
eq_bytes_true [] [] e = refl
eq_bytes_true [] (y ∷ b) e = absurd (false≢true e)
eq_bytes_true (x ∷ a) [] e = absurd (false≢true e)
eq_bytes_true (x ∷ a) (y ∷ b) e = ap₂ ◌∷◌ (eqb-true x y (and_left (eqb x y) (eq_bytes a b) e)) (eq_bytes_true a b (and_right (eqb x y) (eq_bytes a b) e))

eq_bytes_refl : (a : List ℕ) → eq_bytes a a ≡ true
unfolding eq_bytes
eq_bytes_refl [] = refl
eq_bytes_refl (x ∷ a) = ap₂ ◌&&◌ (eq-eqb x x refl) (eq_bytes_refl a)

-- the other way: the lists are equal, so the test passes
pub eq_eq_bytes : (a b : List ℕ) → a ≡ b → eq_bytes a b ≡ true
eq_eq_bytes a b e = subst (λ (l : List ℕ). eq_bytes a l ≡ true) e (eq_bytes_refl a)

-- and not, so it fails
pub ne_eq_bytes : (a b : List ℕ) → (a ≡ b → ⊥) → eq_bytes a b ≡ false
ne_eq_bytes a b h = go (eq_bytes a b) refl
  where
    go : (t : Bool) → eq_bytes a b ≡ t → t ≡ false
    go true e = absurd (h (eq_bytes_true a b e))
    go false e = refl
