use Rattle.slots.specs.Promise.{OfTable}
use Rattle.slots.specs.Sizes.{most_names}
use Rattle.slots.proofs.NameLaws.{Compared}
use Rattle.slot_row.proofs.no_name_twice.Given as goal

abbrev pub invariant-loop-i : goal.invariant-loop-i
invariant-loop-i l = OfTable most_names l.table (λ t. Compared t l.i)
