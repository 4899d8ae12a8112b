use Prim.Native.Nat.{◌-◌}
use mathlib.Core.Path.{sym, ap, ◌∙◌}
use mathlib.Core.List.{List}
use native.Mathlib.Omega.{arith}
use lib.ListN.{length}
use borrow.Author.Rules.{rules}
use Rattle.entry.proofs.KnownLaws.{entry_is}
use Rattle.grammar.specs.Listing.{ResourceRecord}
use Rattle.listing.specs.Giving.{Last, Gives}
use Rattle.table_fault.specs.Sweeping.{fault_or}
use Rattle.table_fault.proofs.GivenLaws.{end_given, fault_given, nothing_given, record_given}
use Rattle.table_fault.proofs.fault_after.Given as goal

abbrev pub invariant-loop-at : goal.invariant-loop-at
invariant-loop-at l = (rs : List ResourceRecord) (last : Last) → Gives l.text l.from rs last → (qs : List ResourceRecord) × Gives l.text l.at qs last

abbrev pub decreases-loop-at : goal.decreases-loop-at
decreases-loop-at l = length l.text - l.at
