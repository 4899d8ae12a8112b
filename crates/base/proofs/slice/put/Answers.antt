use mathlib.Core.Path.{refl}
use native.Mathlib.Omega.{arith}
use Rattle.base.proofs.Fill.{copied_none, copied_more, copied_all}
use Rattle.base.proofs.slice.put.Goals as goal

pub loop-i-init : goal.loop-i-init
loop-i-init c = copied_none c.args.to.now c.args.at c.args.from.now

pub loop-i-preserved : goal.loop-i-preserved
loop-i-preserved c =
    let a = c.args in
    copied_more a.to.now a.at a.from.now _ _ _ c.loop-i.invariant refl (omega arith) (omega arith)

pub shape_of-to : goal.shape_of-to
shape_of-to c = c.loop-i.invariant.long

pub returns : goal.returns
returns c =
    let a = c.args in
    copied_all a.to.now a.at a.from.now _ c.loop-i.i c.loop-i.invariant (omega arith)
