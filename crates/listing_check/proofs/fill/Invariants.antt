use Prim.Native.Nat.{◌-◌}
use mathlib.Core.Path.{◌≡◌}
use native.Mathlib.Omega.{arith}
use lib.ListN.{length}
use borrow.Author.Rules.{rules}
use Rattle.listing_check.proofs.BatchLaws.{SoFar, next_on, so_far_none, so_far_more, so_far_full, so_far_all}
use Rattle.listing_check.proofs.fill.Given as goal

abbrev pub invariant-loop-next : goal.invariant-loop-next
invariant-loop-next l = (length l.out ≡ length l.initial.out) × SoFar l.text l.at l.initial.out l.out (record { next = l.next; used = l.used })

abbrev pub decreases-loop-next : goal.decreases-loop-next
decreases-loop-next l = length l.text - l.next
