use Prim.Native.Nat.{ℕ, ◌-◌, ◌*◌, ◌+◌, ◌≤◌}
use mathlib.Core.Path.{◌≡◌, sym, ap, ◌∙◌}
use mathlib.Core.List.{List}
use native.Mathlib.Omega.{arith}
use lib.ListN.{length, take, drop, length-take, length-drop}
use lib.Seq.{take_all}
use borrow.Author.Rules.{rules}
use borrow.Author.Tests.{not-true, not-false}
use Rattle.base.proofs.RowLaws.{RowReached, row_reached_none, row_reached_more, row_reached_all, row_no_slot, row_unused_decides}
use Rattle.base.proofs.Tests.{yes_by, no_by}
use Rattle.reverse.specs.Form.{slot_bytes, WellFormed}
use Rattle.reverse.specs.Promise.{IsReverseSlot}
use Rattle.reverse.specs.Sizes.{reverse_slot_size, most_addresses}
use Rattle.reverse.proofs.SlotLaws.{length_slot, slot_marked}
use Rattle.reverse_row.proofs.are_slots.Invariants.{some_bytes}
use Rattle.reverse_row.proofs.are_slots.Goals as goal

pub loop-i-init : goal.loop-i-init
loop-i-init c = row_reached_none slot_bytes reverse_slot_size WellFormed length_slot some_bytes slot_marked most_addresses _

pub returns-then-reverse-at-eq0 : goal.returns-then-reverse-at-eq0
returns-then-reverse-at-eq0 c =
    let b = c.args.reverse.now in
    let i = c.loop-i.i in
    row_unused_decides slot_bytes reverse_slot_size WellFormed length_slot some_bytes slot_marked most_addresses b i c.loop-i.invariant c.loop-i-test.true c.if-reverse-at-eq0.true c.requires _ _
    (take_all (length b - reverse_slot_size * i) (drop (reverse_slot_size * i) b) (simp length-drop (omega arith))) c.are_zeros_at_once.ensures

pub is_reverse_slot-requires : goal.is_reverse_slot-requires
is_reverse_slot-requires c = simp (length-take, length-drop) (omega arith)

-- the part that is looked at is the slot
slot-part : (b : List ℕ) (at : ℕ) → take (at + reverse_slot_size - at) (drop at b) ≡ take reverse_slot_size (drop at b)
slot-part b at = let size : at + reverse_slot_size - at ≡ reverse_slot_size = omega arith in ap (λ (n : ℕ). take n (drop at b)) size

pub returns-then-not-is_reverse_slot : goal.returns-then-not-is_reverse_slot
unfolding IsReverseSlot
returns-then-not-is_reverse_slot c =
    let b = c.args.reverse.now in
    let i = c.loop-i.i in
    let no-slot-here = c.is_reverse_slot.ensures.if_false c.if-not-is_reverse_slot.true in
    no_by (row_no_slot slot_bytes reverse_slot_size WellFormed length_slot some_bytes slot_marked most_addresses b i c.loop-i.invariant c.loop-i-test.true c.if-reverse-at-eq0.false
    (λ e w there. no-slot-here (e, w, slot-part b (reverse_slot_size * i) ∙ there)))

pub loop-i-preserved : goal.loop-i-preserved
unfolding IsReverseSlot
loop-i-preserved c =
    let b = c.args.reverse.now in
    let i = c.loop-i.i in
    let slot = c.is_reverse_slot.ensures.if_true c.if-not-is_reverse_slot.false in
    row_reached_more slot_bytes reverse_slot_size WellFormed length_slot some_bytes slot_marked most_addresses b i c.loop-i.invariant c.loop-i-test.true c.if-reverse-at-eq0.false slot.0 slot.1
    (sym (slot-part b (reverse_slot_size * i)) ∙ slot.2)

pub returns : goal.returns
returns c =
    yes_by (row_reached_all slot_bytes reverse_slot_size WellFormed length_slot some_bytes slot_marked most_addresses _ c.loop-i.i c.loop-i.invariant c.loop-i-test.false c.requires)
