use Prim.Native.Nat.{ℕ}
use mathlib.Core.Path.{ap, ◌∙◌}
use native.Mathlib.Omega.{arith}
use lib.ListN.{length, set, replicate, length-set, length-replicate}
use borrow.Author.Rules.{rules}
use Rattle.base.specs.Bytes.{overlay}
use Rattle.base.proofs.Bytes.{length_overlay}
use Rattle.slots.specs.Promise.{field_cleared}
use Rattle.slot_change.proofs.clear_field.Goals as goal

pub put_zeros-requires : goal.put_zeros-requires
put_zeros-requires c = omega (arith, length-set c.args.slot.now 256 c.without_flag.result)

pub shape_of-slot : goal.shape_of-slot
shape_of-slot c =
    let a = c.args in
    let size = length-set a.slot.now 256 c.without_flag.result in
    ap length c.put_zeros.ensures ∙ length_overlay (set a.slot.now 256 c.without_flag.result) a.at (replicate a.size 0) (omega (arith, length-replicate {A = ℕ} a.size 0)) ∙ size

pub returns : goal.returns
unfolding field_cleared
returns c =
    let a = c.args in
    c.put_zeros.ensures ∙ ap (λ (v : ℕ). overlay (set a.slot.now 256 v) a.at (replicate a.size 0)) c.without_flag.ensures
