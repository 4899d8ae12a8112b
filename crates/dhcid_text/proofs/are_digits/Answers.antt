use Prim.Native.Nat.{ℕ, ◌<◌}
use native.Mathlib.Omega.{arith}
use lib.Dec.{ltb}
use borrow.Author.Tests.{ltb-true, ltb-false}
use Rattle.base.specs.Logic.{Decides}
use Rattle.base.proofs.Tests.{both, decides_as}
use Rattle.dhcid_text.proofs.are_digits.Goals as goal

is_digit : (v : ℕ) → Decides (ltb v 64) (v < 64)
is_digit v = record { if_true = ltb-true v 64; if_false = λ f l. omega (arith, ltb-false v 64 f) }

pub returns : goal.returns
returns c =
    let v = c.args in
    decides_as
    (λ h. (h.0.0.0, h.0.0.1, h.0.1, h.1))
    (λ h. (((h.0, h.1), h.2), h.3))
    (both _ _ (both _ _ (both _ _ (is_digit v.a) (is_digit v.b)) (is_digit v.c)) (is_digit v.d))
