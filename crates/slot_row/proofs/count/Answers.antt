use mathlib.Core.Path.{ap}
use native.Mathlib.Omega.{arith}
use lib.ListN.{length, length-drop}
use Rattle.slots.specs.Sizes.{most_names}
use Rattle.slots.proofs.NameLaws.{entry_at}
use Rattle.slots.proofs.TableLaws.{length_table, none_at, some_at}
use Rattle.slot_row.proofs.count.Goals as goal

pub bounds-table-i : goal.bounds-table-i
bounds-table-i c =
    let p = c.requires in
    omega (arith, length_table most_names p.0 _ p.1, c.loop-i-test.true)

pub returns-then-len-eq0 : goal.returns-then-len-eq0
returns-then-len-eq0 c = λ t h.
    let l = c.loop-i in
    omega (arith, l.invariant t h, length-drop l.i t, ap length (none_at most_names t _ h l.i (l.invariant t h) c.if-len-eq0.true))

pub loop-i-preserved : goal.loop-i-preserved
loop-i-preserved c = λ t h.
    let l = c.loop-i in
    let u = some_at most_names t _ h l.i (l.invariant t h) c.loop-i-test.true c.if-len-eq0.false in
    omega (arith, (entry_at t l.i u.entry u.later u.order).within)
