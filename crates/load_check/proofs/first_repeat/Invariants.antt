use Prim.Native.Nat.{◌-◌, ◌≤◌}
use mathlib.Core.List.{List}
use native.Mathlib.Omega.{arith}
use lib.ListN.{length}
use borrow.Author.Rules.{rules}
use Rattle.entry.proofs.KnownLaws.{entry_is}
use Rattle.grammar.specs.Listing.{ResourceRecord}
use Rattle.listing.specs.Giving.{end, Gives}
use Rattle.load_check.specs.Loading.{Repeated}
use Rattle.load_check.proofs.ReachedLaws.{turn}
use Rattle.load_check.proofs.RepeatLaws.{Unrepeated, unrepeated_none, unrepeated_more, unrepeated_all, repeat_found}
use Rattle.load_check.proofs.first_repeat.Given as goal

abbrev pub invariant-loop-at : goal.invariant-loop-at
invariant-loop-at l = (rs : List ResourceRecord) → Gives l.text 0 rs end → Unrepeated l.text rs l.at

abbrev pub decreases-loop-at : goal.decreases-loop-at
decreases-loop-at l = length l.text - l.at
