use Prim.Native.Nat.{◌-◌}
use native.Mathlib.Omega.{arith}
use Rattle.slots.specs.Form.{IsSlot}
use Rattle.slots.specs.Promise.{OfTable}
use Rattle.slots.specs.Sizes.{most_names}
use Rattle.slots.proofs.TableLaws.{length_table, no_more, none_at}
use Rattle.table_write.proofs.WriteLaws.{Measured, measured_none, measured_end, measured_more, measured_within, used_slot, listing_short}
use Rattle.table_write.proofs.listing_length.Goals as goal

pub loop-i-init : goal.loop-i-init
loop-i-init c = λ t h. measured_none t

pub bounds-table-start : goal.bounds-table-start
bounds-table-start c =
    omega (arith, length_table most_names c.requires.0 _ c.requires.1)

pub returns-then-table-start-eq0 : goal.returns-then-table-start-eq0
returns-then-table-start-eq0 c =
    λ t h.
    let m = c.loop-i.invariant t h in
    measured_end m (none_at most_names t _ h c.loop-i.i m.low c.if-table-start-eq0.true)

pub overflow_add-start : goal.overflow_add-start
overflow_add-start c =
    omega (arith, length_table most_names c.requires.0 _ c.requires.1)

pub slice_bounds-slot_length-end : goal.slice_bounds-slot_length-end
slice_bounds-slot_length-end c =
    omega (arith, length_table most_names c.requires.0 _ c.requires.1)

pub slot_length-sum-requires : goal.slot_length-sum-requires
unfolding IsSlot
slot_length-sum-requires c =
    let t = c.requires in
    let u = used_slot t.0 _ t.1 c.loop-i.i (c.loop-i.invariant t.0 t.1).low c.loop-i-test.true c.if-table-start-eq0.false in
    (u.entry, u.well_formed, u.form)

pub overflow_add-sum : goal.overflow_add-sum
overflow_add-sum c =
    let t = c.requires in
    let m = c.loop-i.invariant t.0 t.1 in
    let u = used_slot t.0 _ t.1 c.loop-i.i m.low c.loop-i-test.true c.if-table-start-eq0.false in
    omega (arith, c.slot_length-sum.ensures u.entry u.well_formed u.form, measured_within m u.at, listing_short t.1)

pub loop-i-preserved : goal.loop-i-preserved
loop-i-preserved c =
    λ t h.
    let m = c.loop-i.invariant t h in
    let u = used_slot t _ h c.loop-i.i m.low c.loop-i-test.true c.if-table-start-eq0.false in
    measured_more m u.at (omega (arith, c.slot_length-sum.ensures u.entry u.well_formed u.form))

pub returns : goal.returns
returns c =
    λ t h.
    let m = c.loop-i.invariant t h in
    measured_end m (no_more most_names t _ h c.loop-i.i m.low c.loop-i-test.false)
