-- The public theorems of `base`. Assumes nothing.
use Prim.Native.Nat.{ℕ}
use mathlib.Core.Path.{◌≡◌, sym, ◌∙◌}
use mathlib.Core.Logic.{inl, inr}
use mathlib.Core.List.{List, [], ◌∷◌}
use native.Mathlib.Omega.{arith}
use Rattle.base.specs.Answer.{In32Bits, TakenApart}
use Rattle.base.specs.Order.{Test, AllHold, FirstFault}
use Rattle.base.specs.declared.Answer.{Answer}
use Rattle.base.specs.declared.Answer.TheVariants.{Accepted, Refused}

-- C loses nothing of an answer
pub taken_apart : (a : Answer) → In32Bits a → TakenApart a
unfolding In32Bits
taken_apart (Accepted v) small = record { low = omega arith; high = omega arith }
taken_apart (Refused n o) small = record { low = omega arith; high = omega arith }

-- ---- the order of refusals: one number is given, and none where everything holds

pub one_fault : (ts : List Test) (m n : ℕ) → FirstFault ts m → FirstFault ts n → m ≡ n
one_fault [] m n f g = absurd f
one_fault (t ∷ ts) m n (inl f) (inl g) = f.1 ∙ sym g.1
one_fault (t ∷ ts) m n (inl f) (inr g) = absurd (f.0 g.0)
one_fault (t ∷ ts) m n (inr f) (inl g) = absurd (g.0 f.0)
one_fault (t ∷ ts) m n (inr f) (inr g) = one_fault ts m n f.1 g.1

pub no_fault : (ts : List Test) (n : ℕ) → AllHold ts → FirstFault ts n → ⊥
no_fault [] n h f = f
no_fault (t ∷ ts) n h (inl f) = f.0 h.0
no_fault (t ∷ ts) n h (inr f) = no_fault ts n h.1 f.1
