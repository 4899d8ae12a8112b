use Prim.Native.Nat.{◌-◌, ◌≤◌}
use mathlib.Core.List.{List}
use native.Mathlib.Omega.{arith}
use lib.ListN.{length}
use borrow.Author.Rules.{rules}
use Rattle.entry.proofs.KnownLaws.{entry_is}
use Rattle.grammar.specs.Listing.{ResourceRecord}
use Rattle.listing.specs.Giving.{end, Gives}
use Rattle.load_check.proofs.NameLaws.{Counted, counted_none, counted_more, counted_all}
use Rattle.load_check.proofs.ReachedLaws.{turn}
use Rattle.load_check.proofs.count_names.Given as goal

abbrev pub invariant-loop-at : goal.invariant-loop-at
invariant-loop-at l = (l.count ≤ l.at) × (l.at ≤ length l.text) × ((rs : List ResourceRecord) → Gives l.text 0 rs end → Counted l.text rs l.at l.count)

abbrev pub decreases-loop-at : goal.decreases-loop-at
decreases-loop-at l = length l.text - l.at
