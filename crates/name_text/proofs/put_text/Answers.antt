use Prim.Native.Nat.{◌+◌}
use mathlib.Core.Path.{◌∙◌}
use native.Mathlib.Omega.{arith}
use Rattle.base.proofs.Fill.{copied_none, copied_all}
use Rattle.name.specs.Promise.{text_of}
use Rattle.name.proofs.DottedLaws.{length_text_of, names_size, dotting_none, dotting_more, dotting_all, dotted_all}
use Rattle.name_text.proofs.put_text.Goals as goal

pub returns-then-n-eq0 : goal.returns-then-n-eq0
returns-then-n-eq0 c =
    let a = c.args in
    let n = a.name.now in
    copied_all a.to.now a.at (text_of n) _ 0 (copied_none a.to.now a.at (text_of n)) (omega (arith, length_text_of n))

pub overflow_cast-i : goal.overflow_cast-i
overflow_cast-i c = omega (arith, c.type_inv.name 0)

pub loop-i-init : goal.loop-i-init
loop-i-init c =
    dotting_none c.args.to.now c.args.at c.args.name.now _ (omega arith) c.requires c.put.ensures

pub overflow_cast-i-in-loop-i : goal.overflow_cast-i-in-loop-i
overflow_cast-i-in-loop-i c = omega (arith, c.type_inv.name (c.loop-i.i + 1))

pub overflow_add-i-in-loop-i : goal.overflow_add-i-in-loop-i
overflow_add-i-in-loop-i c = omega (arith, c.type_inv.name (c.loop-i.i + 1))

pub overflow_add-i-in-loop-i-2 : goal.overflow_add-i-in-loop-i-2
overflow_add-i-in-loop-i-2 c = omega (arith, c.type_inv.name (c.loop-i.i + 1))

pub loop-i-preserved : goal.loop-i-preserved
loop-i-preserved c =
    let l = c.loop-i in
    let size = names_size c.args.to.now c.args.at c.args.name.now _ (omega arith) c.requires c.put.ensures in
    dotting_more _ _ _ _ l.i l.invariant c.loop-i-test.true (omega (arith, size, c.requires))

pub shape_of-to : goal.shape_of-to
shape_of-to c =
    c.loop-i.invariant.size ∙ names_size c.args.to.now c.args.at c.args.name.now _ (omega arith) c.requires c.put.ensures

pub returns : goal.returns
returns c =
    let l = c.loop-i in
    dotted_all c.args.to.now c.args.at c.args.name.now _ (omega arith) c.requires c.put.ensures _ (dotting_all _ _ _ _ l.i l.invariant c.loop-i-test.false)
