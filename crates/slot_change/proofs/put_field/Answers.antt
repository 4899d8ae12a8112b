use Prim.Native.Nat.{ℕ}
use mathlib.Core.Path.{ap, ◌∙◌}
use native.Mathlib.Omega.{arith}
use lib.ListN.{length, set, length-set}
use borrow.Author.Rules.{rules}
use Rattle.base.specs.Bytes.{overlay}
use Rattle.base.proofs.Bytes.{length_overlay}
use Rattle.slots.specs.Promise.{field_put}
use Rattle.slot_change.proofs.put_field.Goals as goal

pub put-requires : goal.put-requires
put-requires c = omega (arith, length-set c.args.slot.now 256 c.with_flag.result)

pub shape_of-slot : goal.shape_of-slot
shape_of-slot c =
    let a = c.args in
    let size = length-set a.slot.now 256 c.with_flag.result in
    ap length c.put.ensures ∙ length_overlay (set a.slot.now 256 c.with_flag.result) a.at a.bytes.now (omega arith) ∙ size

pub returns : goal.returns
unfolding field_put
returns c =
    let a = c.args in
    c.put.ensures ∙ ap (λ (v : ℕ). overlay (set a.slot.now 256 v) a.at a.bytes.now) c.with_flag.ensures
