use Rattle.name.specs.Name.{canonical}
use Rattle.slots.specs.Promise.{OfTable}
use Rattle.slots.specs.Sizes.{most_names}
use Rattle.slots.proofs.NameLaws.{Searched}
use Rattle.slot_row.proofs.find.Given as goal

abbrev pub invariant-loop-i : goal.invariant-loop-i
invariant-loop-i l = OfTable most_names l.table (λ t. Searched (canonical l.name) t l.i)
