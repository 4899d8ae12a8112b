use Rattle.slots.proofs.TableLaws.{Reached}
use Rattle.slots.specs.Sizes.{most_names}
use Rattle.slot_row.proofs.are_slots.Given as goal

abbrev pub invariant-loop-i : goal.invariant-loop-i
invariant-loop-i l = Reached most_names l.table l.i
