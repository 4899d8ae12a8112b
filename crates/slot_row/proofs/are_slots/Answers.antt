use Prim.Native.Nat.{◌-◌, ◌*◌, ◌+◌}
use mathlib.Core.Path.{◌≡◌}
use native.Mathlib.Omega.{arith}
use lib.ListN.{length, drop, length-drop}
use lib.Seq.{take_all}
use Rattle.base.proofs.Tests.{yes_by, no_by}
use Rattle.slots.proofs.TableLaws.{reached_more, reached_all, no_slot, unused_decides}
use Rattle.slots.specs.Sizes.{most_names, slot_size}
use Rattle.slot_row.proofs.are_slots.Goals as goal

pub returns-then-table-at-eq0 : goal.returns-then-table-at-eq0
returns-then-table-at-eq0 c =
    let b = c.args.table.now in
    let i = c.loop-i.i in
    unused_decides most_names b i c.loop-i.invariant c.loop-i-test.true c.if-table-at-eq0.true c.requires _ _
    (take_all (length b - slot_size * i) (drop (slot_size * i) b) (simp length-drop (omega arith))) c.are_zeros_at_once.ensures

pub returns-then-not-is_slot : goal.returns-then-not-is_slot
returns-then-not-is_slot c =
    let b = c.args.table.now in
    let at = slot_size * c.loop-i.i in
    let size : at + slot_size - at ≡ slot_size = omega arith in
    let no-slot-here = c.is_slot.ensures.if_false c.if-not-is_slot.true in
    no_by (no_slot most_names b c.loop-i.i c.loop-i.invariant c.loop-i-test.true c.if-table-at-eq0.false (λ s. no-slot-here (rw size s)))

pub loop-i-preserved : goal.loop-i-preserved
loop-i-preserved c =
    let b = c.args.table.now in
    let at = slot_size * c.loop-i.i in
    let size : at + slot_size - at ≡ slot_size = omega arith in
    reached_more most_names b c.loop-i.i c.loop-i.invariant c.loop-i-test.true c.if-table-at-eq0.false
    (rw size at (c.is_slot.ensures.if_true c.if-not-is_slot.false))

pub returns : goal.returns
returns c =
    yes_by (reached_all most_names _ c.loop-i.i c.loop-i.invariant c.loop-i-test.false c.requires)
