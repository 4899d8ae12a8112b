-- Tests in a row (specs/Order.antt), one part after the other. Assumes nothing.
use Prim.Native.Nat.{ℕ}
use mathlib.Core.Logic.{inl, inr}
use mathlib.Core.List.{List, [], ◌∷◌, ◌++◌}
use Rattle.base.specs.Order.{Test, AllHold, FirstFault}

-- a fault of the first part
pub fault_before_lem : (ts us : List Test) (n : ℕ) → FirstFault ts n → FirstFault (ts ++ us) n
fault_before_lem [] us n f = absurd f
fault_before_lem (t ∷ ts) us n (inl f) = inl f
fault_before_lem (t ∷ ts) us n (inr f) = inr (f.0, fault_before_lem ts us n f.1)

-- none there, and a fault of the second
pub fault_after : (ts us : List Test) (n : ℕ) → AllHold ts → FirstFault us n → FirstFault (ts ++ us) n
fault_after [] us n h f = f
fault_after (t ∷ ts) us n h f = inr (h.0, fault_after ts us n h.1 f)

-- none in either
pub hold_both : (ts us : List Test) → AllHold ts → AllHold us → AllHold (ts ++ us)
hold_both [] us h k = k
hold_both (t ∷ ts) us h k = (h.0, hold_both ts us h.1 k)
