-- Bytes that are nothing but zeros. Assumes nothing.
use Rattle.std.proofs.Common.{ℕ, zero, suc, ◌≡◌, refl, sym, ap, ap₂, ◌∙◌, List, [], ◌∷◌, length, replicate, nat_eq, bit_or, arith}
use Rattle.std.specs.List.{fold}
use lib.Bits.{or_add_and, and_le_l, and_le_r}
use borrow.Author.Tests.{eqb-true, eqb-false}
use Rattle.base.specs.Logic.{Decides}

-- an OR is 0 only if both are
pub or_none : (x y : ℕ) → bit_or x y ≡ 0 → (x ≡ 0) × (y ≡ 0)
or_none x y e = (omega (arith, or_add_and x y, and_le_r x y), omega (arith, or_add_and x y, and_le_l x y))

all_none : (b : List ℕ) (bits : ℕ) → fold bit_or bits b ≡ 0 → (bits ≡ 0) × (b ≡ replicate (length b) 0)
all_none [] bits e = (e, refl)
all_none (x ∷ b) bits e =
    let rest = all_none b (bit_or bits x) e in
    let here = or_none bits x rest.0 in
    (here.0, ap₂ ◌∷◌ here.1 rest.1)

or_zeros : (n : ℕ) → fold bit_or 0 (replicate n 0) ≡ 0
or_zeros zero = refl
or_zeros (suc n) = or_zeros n

-- the bits of all bytes are none exactly if they are all 0
pub zeros_by_bits : (b : List ℕ) (bits : ℕ) → bits ≡ fold bit_or 0 b → Decides (nat_eq bits 0) (b ≡ replicate (length b) 0)
zeros_by_bits b bits e =
    record {
      if_true = λ t. (all_none b 0 (sym e ∙ eqb-true bits 0 t)).1;
      if_false = λ f z. eqb-false bits 0 f (e ∙ ap (fold bit_or 0) z ∙ or_zeros (length b));
    }
