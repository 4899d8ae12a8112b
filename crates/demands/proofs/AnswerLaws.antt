-- An answer is a refusal exactly if the input is bad: from what a call promises to demand 1's `Refuses`. Assumes nothing.
use Prim.Native.Nat.{ℕ, ◌<◌}
use mathlib.Core.Bool.{Bool, true, ◌&&◌}
use mathlib.Core.Path.{◌≡◌, refl, sym, ap, ap₂, subst, ◌∙◌}
use mathlib.Core.Logic.{inl, inr}
use mathlib.Core.List.{List, [], ◌∷◌, ◌++◌}
use lib.Dec.{ltb}
use borrow.Author.Tests.{ltb-true}
use native.Mathlib.Omega.{arith}
use Rattle.base.specs.Answer.{number, offset, for_c, In32Bits}
use Rattle.base.specs.Order.{Test, AllHold, FirstFault}
use Rattle.base.specs.declared.Answer.{Answer}
use Rattle.base.specs.declared.Answer.TheVariants.{Accepted, Refused}
use Rattle.base.proofs.Tests.{and_left, and_right}
use Rattle.base.proofs.OrderLaws.{fault_after, hold_both}
use Rattle.base.proofs.Theorems.{taken_apart, one_fault, no_fault}
use Rattle.base.proofs.AnswerLaws.{accepted≢refused}
use Rattle.demands.specs.Faults.{InOrder}
use Rattle.demands.specs.Demand1.{Refuses}
use Rattle.demands.specs.Told.{ToldC}

-- accepted, and the input is not bad; or refused as it is bad, and it is bad in one way
pub data Judged (Fault : ℕ → ℕ → Type 0) (a : Answer) : Type 0 where
  good : (v : ℕ) → a ≡ Accepted v → ((n at : ℕ) → Fault n at → ⊥) → Judged Fault a
  bad : (n at : ℕ) → a ≡ Refused n at → Fault n at → ((m p : ℕ) → Fault m p → (n ≡ m) × (at ≡ p)) → Judged Fault a

pub refuses : {Fault : ℕ → ℕ → Type 0} {a : Answer} → Judged Fault a → Refuses Fault a
unfolding Refuses
refuses (Judged.good v e none) m p = (λ r. absurd (accepted≢refused (sym e ∙ r)), λ f. absurd (none m p f))
refuses {Fault} (Judged.bad n at e f one) m p = (
  λ r. subst (Fault m) (ap offset (sym e ∙ r)) (subst (λ (k : ℕ). Fault k at) (ap number (sym e ∙ r)) f),
  λ g. let same = one m p g in e ∙ ap₂ Refused same.0 same.1,
)

-- ---- tests in a row

-- they all hold, and the call is accepted; or it is refused with the number of the first that fails
pub data InRow (a : Answer) (ts : List Test) : Type 0 where
  passed : (v : ℕ) → a ≡ Accepted v → AllHold ts → InRow a ts
  failed : (n : ℕ) → a ≡ Refused n 0 → FirstFault ts n → InRow a ts

-- the first part holds, and the second decides
pub after : {a : Answer} (ts us : List Test) → AllHold ts → InRow a us → InRow a (ts ++ us)
after ts us h (InRow.passed v e k) = InRow.passed v e (hold_both ts us h k)
after ts us h (InRow.failed n e f) = InRow.failed n e (fault_after ts us n h f)

pub by_order : {a : Answer} (ts : List Test) → InRow a ts → Refuses (InOrder ts) a
by_order ts (InRow.passed v e h) = refuses (Judged.good v e (λ n at f. no_fault ts n h f.0))
by_order ts (InRow.failed n e f) = refuses (Judged.bad n 0 e (f, refl) (λ m at g. (one_fault ts n m f g.0, sym g.1)))

-- ---- what C gets

-- no refusal has the number 0, which is that of an accepted call
unfoldable pub Numbered : Answer → Type 0
Numbered a = (at : ℕ) → a ≡ Refused 0 at → ⊥

pub numbered_accepted : (v : ℕ) → Numbered (Accepted v)
unfolding Numbered
numbered_accepted v at e = accepted≢refused e

pub numbered_refused : (n at : ℕ) → 0 < n → Numbered (Refused n at)
unfolding Numbered
numbered_refused n at more p e = omega (arith, ap number e)

pub numbered_as : {a b : Answer} → a ≡ b → Numbered b → Numbered a
numbered_as e f = subst Numbered (sym e) f

-- are the tests' numbers all above 0?
unfoldable pub positive : List Test → Bool
positive [] = true
positive (t ∷ ts) = ltb 0 t.number && positive ts

pub fault_positive : (ts : List Test) → positive ts ≡ true → (n : ℕ) → FirstFault ts n → 0 < n
unfolding positive
fault_positive [] p n f = absurd f
fault_positive (t ∷ ts) p n (inl f) = omega (arith, f.1, ltb-true 0 t.number (and_left _ _ p))
fault_positive (t ∷ ts) p n (inr f) = fault_positive ts (and_right (ltb 0 t.number) _ p) n f.1

pub numbered_in_row : {a : Answer} (ts : List Test) → positive ts ≡ true → InRow a ts → Numbered a
numbered_in_row ts p (InRow.passed v e h) = numbered_as e (numbered_accepted v)
numbered_in_row ts p (InRow.failed n e f) = numbered_as e (numbered_refused n 0 (fault_positive ts p n f))

-- the answer that a number tells, of which P holds
pub told_c : {r : ℕ} {P : Answer → Type 0} (a : Answer) → r ≡ for_c a → In32Bits a → Numbered a → P a → ToldC r P
unfolding Numbered
told_c a e small n p = record { answer = a; told = e; apart = taken_apart a small; numbered = n; holds = p }
