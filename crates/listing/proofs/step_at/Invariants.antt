use Prim.Native.Nat.{◌-◌}
use native.Mathlib.Omega.{arith}
use lib.ListN.{length}
use borrow.Author.Rules.{rules}
use Rattle.entry.proofs.KnownLaws.{entry_is}
use Rattle.listing.proofs.StepLaws.{Skipped, skipped_none, skipped_nothing, step_record, step_refused, step_end, step_over}
use Rattle.listing.proofs.step_at.Given as goal

abbrev pub invariant-loop-i : goal.invariant-loop-i
invariant-loop-i l = Skipped l.text l.at l.i

abbrev pub decreases-loop-i : goal.decreases-loop-i
decreases-loop-i l = length l.text - l.i
