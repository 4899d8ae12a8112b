use native.Mathlib.Omega.{arith}
use Rattle.base.proofs.Tests.{yes_by, no_by}
use Rattle.slots.specs.Sizes.{most_names}
use Rattle.slots.proofs.NameLaws.{compared_end, compared_more, entry_at, distinct_own}
use Rattle.slots.proofs.TableLaws.{length_table, no_more, none_at, some_at}
use Rattle.slot_row.proofs.no_name_twice.Goals as goal

pub bounds-table-i : goal.bounds-table-i
bounds-table-i c =
    let p = c.requires in
    omega (arith, length_table most_names p.0 _ p.1, c.loop-i-test.true)

pub returns-then-table-i-eq0 : goal.returns-then-table-i-eq0
returns-then-table-i-eq0 c = λ t h.
    let s = c.loop-i.invariant t h in
    yes_by (compared_end t c.loop-i.i s (none_at most_names t _ h c.loop-i.i s.low c.if-table-i-eq0.true))

pub returns-then-not-is_first : goal.returns-then-not-is_first
returns-then-not-is_first c = λ t h.
    let s = c.loop-i.invariant t h in
    let u = some_at most_names t _ h c.loop-i.i s.low c.loop-i-test.true c.if-table-i-eq0.false in
    no_by (λ d. (c.is_first.ensures t h u.entry u.later u.order).if_false c.if-not-is_first.true (distinct_own t c.loop-i.i u.entry u.later (entry_at t c.loop-i.i u.entry u.later u.order) d))

pub loop-i-preserved : goal.loop-i-preserved
loop-i-preserved c = λ t h.
    let s = c.loop-i.invariant t h in
    let u = some_at most_names t _ h c.loop-i.i s.low c.loop-i-test.true c.if-table-i-eq0.false in
    compared_more t c.loop-i.i s u.entry u.later (entry_at t c.loop-i.i u.entry u.later u.order)
    ((c.is_first.ensures t h u.entry u.later u.order).if_true c.if-not-is_first.false)

pub returns : goal.returns
returns c = λ t h.
    let s = c.loop-i.invariant t h in
    yes_by (compared_end t c.loop-i.i s (no_more most_names t _ h c.loop-i.i s.low c.loop-i-test.false))
