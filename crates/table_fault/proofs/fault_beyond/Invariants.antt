use Prim.Native.Nat.{◌-◌}
use mathlib.Core.Path.{◌≡◌, refl, ◌∙◌}
use mathlib.Core.List.{List}
use lib.ListN.{length}
use borrow.Author.Rules.{rules}
use Rattle.grammar.specs.Listing.{ResourceRecord}
use Rattle.listing.specs.Giving.{end, Gives}
use Rattle.table_fault.specs.Sweeping.{Faultless}
use Rattle.table_fault.proofs.FaultLaws.{Sought, sought_none, sought_repeat, sought_whole, sought_fault, sought_on, sought_more}
use Rattle.table_fault.proofs.fault_beyond.Given as goal

abbrev pub invariant-loop-next : goal.invariant-loop-next
invariant-loop-next l = (length l.slots ≡ length l.initial.slots) × ((rs : List ResourceRecord) → Gives l.text l.from rs end → Sought l.text l.at rs)

abbrev pub decreases-loop-next : goal.decreases-loop-next
decreases-loop-next l = length l.text - l.at
