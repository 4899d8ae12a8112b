use Prim.Native.Nat.{◌-◌}
use mathlib.Core.Path.{sym, ap, subst, ◌∙◌}
use mathlib.Core.List.{List}
use native.Mathlib.Omega.{arith}
use lib.ListN.{length, length-set}
use borrow.Author.Rules.{rules}
use Rattle.grammar.specs.Listing.{ResourceRecord}
use Rattle.listing.specs.Giving.{Last, Gives}
use Rattle.listing.proofs.Theorems.{some_giving}
use Rattle.records.specs.Gathered.{owners}
use Rattle.slots.specs.Sizes.{most_names}
use Rattle.table_fault.specs.Sweeping.{SomeMarked, Sweeps}
use Rattle.table_fault.proofs.GivenLaws.{end_given}
use Rattle.table_fault.proofs.SweepLaws.{SweptTo, swept_none, index_low, repeated, ended_sweeps}
use Rattle.table_fault.proofs.TypeLaws.{bit_some, bit_small, flagged_small}
use Rattle.table_fault.proofs.TurnLaws.{swept_still, swept_known, swept_new, swept_beyond, swept_past}
use Rattle.table_fault.proofs.sweep.Given as goal

abbrev pub invariant-loop-at : goal.invariant-loop-at
invariant-loop-at l = (rs : List ResourceRecord) (last : Last) → Gives l.text l.from rs last → SweptTo l.text l.from last l.initial.slots rs l.starts l.marks l.types l.used l.rest l.at l.slots l.count

abbrev pub decreases-loop-at : goal.decreases-loop-at
decreases-loop-at l = length l.text - l.at
