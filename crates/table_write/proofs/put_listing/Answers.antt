use Prim.Native.Nat.{◌-◌}
use mathlib.Core.Path.{◌≡◌, refl, ◌∙◌}
use native.Mathlib.Omega.{arith}
use lib.ListN.{length}
use Rattle.slots.specs.Promise.{OfTable}
use Rattle.slots.specs.Sizes.{most_names}
use Rattle.slots.proofs.TableLaws.{length_table, no_more, none_at}
use Rattle.table_write.proofs.WriteLaws.{Written, written_none, written_end, written_more, measured_within, used_slot}
use Rattle.table_write.proofs.put_listing.Goals as goal

pub loop-i-init : goal.loop-i-init
loop-i-init c = (refl, λ t h. written_none t _)

pub bounds-table-start : goal.bounds-table-start
bounds-table-start c =
    omega (arith, length_table most_names c.requires.table _ c.requires.slots)

pub shape_of-to-then-table-start-eq0 : goal.shape_of-to-then-table-start-eq0
shape_of-to-then-table-start-eq0 c = c.loop-i.invariant.0

pub returns-then-table-start-eq0 : goal.returns-then-table-start-eq0
returns-then-table-start-eq0 c =
    λ t h.
    let w = c.loop-i.invariant.1 t h in
    written_end w (none_at most_names t _ h c.loop-i.i w.measured.low c.if-table-start-eq0.true)

pub overflow_add-start : goal.overflow_add-start
overflow_add-start c =
    omega (arith, length_table most_names c.requires.table _ c.requires.slots)

pub slice_bounds-put_slot-end : goal.slice_bounds-put_slot-end
slice_bounds-put_slot-end c =
    omega (arith, length_table most_names c.requires.table _ c.requires.slots)

pub put_slot-at-requires : goal.put_slot-at-requires
put_slot-at-requires c =
    let f = c.requires in
    let m = (c.loop-i.invariant.1 f.table f.slots).measured in
    let u = used_slot f.table _ f.slots c.loop-i.i m.low c.loop-i-test.true c.if-table-start-eq0.false in
    record { entry = u.entry; well_formed = u.well_formed; form = u.form; room = omega (arith, f.room, measured_within m u.at, c.loop-i.invariant.0) }

pub loop-i-preserved : goal.loop-i-preserved
loop-i-preserved c = (
  c.put_slot-at.auto.to ∙ c.loop-i.invariant.0,
  λ t h.
      let w = c.loop-i.invariant.1 t h in
      let u = used_slot t _ h c.loop-i.i w.measured.low c.loop-i-test.true c.if-table-start-eq0.false in
      written_more w u.at (c.put_slot-at.ensures u.entry u.well_formed u.form),
)

pub shape_of-to : goal.shape_of-to
shape_of-to c = c.loop-i.invariant.0

pub returns : goal.returns
returns c =
    λ t h.
    let w = c.loop-i.invariant.1 t h in
    written_end w (no_more most_names t _ h c.loop-i.i w.measured.low c.loop-i-test.false)
