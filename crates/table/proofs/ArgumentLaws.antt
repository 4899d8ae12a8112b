-- Which fault of a call's arguments comes first, test by test. Assumes nothing.
use Prim.Native.Nat.{ℕ}
use mathlib.Core.Path.{◌≡◌, refl}
use mathlib.Core.Logic.{inl, inr}
use mathlib.Core.List.{List, ◌∷◌, ◌++◌}
use Rattle.base.specs.Order.{Test, AllHold, FirstFault}
use Rattle.base.proofs.OrderLaws.{fault_before_lem, fault_after, hold_both}
use Rattle.base.specs.declared.Answer.{Answer}
use Rattle.base.specs.declared.Answer.TheVariants.{Refused}
use Rattle.slots.specs.Form.{TableEntry, Sound}
use Rattle.table.specs.Steps.{StepOutcome}
use Rattle.table.specs.Promise.{Results}
use Rattle.table.specs.Calls.{Judged, Called}

-- no fault, or the first one
pub all_hold : (ts : List Test) (n : ℕ) → n ≡ 0 → Judged ts n → AllHold ts
all_hold ts n z (inl j) = j.1
all_hold ts n z (inr j) = absurd (j.0 z)

pub the_fault : (ts : List Test) (n : ℕ) → (n ≡ 0 → ⊥) → Judged ts n → FirstFault ts n
the_fault ts n nz (inl j) = absurd (nz j.0)
the_fault ts n nz (inr j) = j.1

-- the first test, then those of one part, then those of another
module _ (t : Test) (ts us : List Test) where
  pub first_fails : (t.number ≡ 0 → ⊥) → (t.holds → ⊥) → Judged (t ∷ (ts ++ us)) t.number
  first_fails nz fails = inr (nz, inl (fails, refl))

  module _ (first : t.holds) (n : ℕ) where
    pub part_fails : (n ≡ 0 → ⊥) → FirstFault ts n → Judged (t ∷ (ts ++ us)) n
    part_fails nz f = inr (nz, inr (first, fault_before_lem ts us n f))

    pub rest_judged : AllHold ts → Judged us n → Judged (t ∷ (ts ++ us)) n
    rest_judged h (inl j) = inl (j.0, (first, hold_both ts us h j.1))
    rest_judged h (inr j) = inr (j.0, inr (first, fault_after ts us n h j.1))

-- ---- another statement for the first test

module _ (n : ℕ) {P Q : Type 0} (forth : P → Q) (back : Q → P) (ts : List Test) where
  pub fault_as : (m : ℕ) → FirstFault (record { number = n; holds = P } ∷ ts) m → FirstFault (record { number = n; holds = Q } ∷ ts) m
  fault_as m (inl f) = inl (λ q. f.0 (back q), f.1)
  fault_as m (inr f) = inr (forth f.0, f.1)

  pub hold_as : AllHold (record { number = n; holds = P } ∷ ts) → AllHold (record { number = n; holds = Q } ∷ ts)
  hold_as h = (forth h.0, h.1)

-- ---- what a call answers

module _ (limit : ℕ) (ts : List Test) (b : List ℕ) (step : List TableEntry → StepOutcome (List ℕ)) (r : Answer) (left : List ℕ) where
  pub faulty : (n : ℕ) → FirstFault ts n → r ≡ Refused n 0 → left ≡ b → Called limit ts b step r left
  faulty n f a e = inl (record { number = n; fault = f; answer = a; unchanged = e })

  pub stepped : AllHold ts → (s : Sound limit b) → Results limit (step s.table) r left → Called limit ts b step r left
  stepped h s o = inr (record { all_hold = h; sound = s; answer = o.answer; table = o.table })
