use Prim.Native.Nat.{ℕ, ◌-◌, ◌*◌, ◌+◌, ◌≤◌}
use mathlib.Core.Path.{◌≡◌, sym, ap, ◌∙◌}
use mathlib.Core.List.{List}
use native.Mathlib.Omega.{arith}
use lib.ListN.{length, take, drop, length-take, length-drop}
use lib.Seq.{take_all}
use borrow.Author.Rules.{rules}
use borrow.Author.Tests.{not-true, not-false}
use Rattle.base.proofs.RowLaws.{RowReached, row_reached_none, row_reached_more, row_reached_all, row_no_slot, row_unused_decides}
use Rattle.base.proofs.Tests.{yes_by, no_by}
use Rattle.reverse.specs.Form.{slot_bytes, WellFormed}
use Rattle.reverse.specs.Promise.{IsReverseSlot}
use Rattle.reverse.specs.Sizes.{reverse_slot_size, most_addresses}
use Rattle.reverse.proofs.SlotLaws.{length_slot, slot_marked}
use Rattle.reverse_row.proofs.are_slots.Given as goal

-- a slot has a first byte
pub some_bytes : 1 ≤ reverse_slot_size
some_bytes = omega arith

abbrev pub invariant-loop-i : goal.invariant-loop-i
invariant-loop-i l = RowReached slot_bytes reverse_slot_size WellFormed length_slot some_bytes slot_marked most_addresses l.reverse l.i

abbrev pub decreases-loop-i : goal.decreases-loop-i
decreases-loop-i l = most_addresses - l.i
