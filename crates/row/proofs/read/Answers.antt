use native.Mathlib.Omega.{arith}
use lib.ListN.{length-set}
use Rattle.row.proofs.FillingLaws.{filled_none, is_more, in_row, next_count, filled_more, filled_all}
use Rattle.row.proofs.read.Goals as goal

pub loop-s-init : goal.loop-s-init
loop-s-init c = filled_none c.args.text.now c.args.row.now c.begin-s.result c.begin-s.ensures

pub step-d-requires : goal.step-d-requires
step-d-requires c =
    let a = c.args in
    let l = c.loop-s in
    is_more a.text.now a.row.now l.s l.row l.invariant c.loop-s-test.true

pub loop-s-smaller : goal.loop-s-smaller
loop-s-smaller c =
    let a = c.args in
    let l = c.loop-s in
    let d = c.step-d in
    let within = in_row a.text.now a.row.now l.s l.row l.invariant c.loop-s-test.true in
    let next = next_count a.text.now a.row.now l.s l.row l.invariant c.loop-s-test.true d.result d.ensures in
    simp length-set (omega (arith, within, next))

pub loop-s-preserved : goal.loop-s-preserved
loop-s-preserved c =
    let a = c.args in
    let l = c.loop-s in
    let d = c.step-d in
    filled_more a.text.now a.row.now l.s l.row l.invariant c.loop-s-test.true d.result d.ensures

pub returns : goal.returns
returns c =
    let a = c.args in
    let l = c.loop-s in
    filled_all a.text.now a.row.now l.s l.row l.invariant c.loop-s-test.false
