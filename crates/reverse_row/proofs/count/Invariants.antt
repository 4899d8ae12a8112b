use Prim.Native.Nat.{◌-◌, ◌≤◌}
use mathlib.Core.Path.{◌≡◌}
use native.Mathlib.Omega.{arith}
use lib.ListN.{length}
use borrow.Author.Rules.{rules}
use Rattle.base.proofs.Tests.{by_ltb}
use Rattle.reverse.specs.Promise.{OfReverse}
use Rattle.reverse.specs.Sizes.{most_addresses}
use Rattle.reverse.proofs.SideLaws.{length_side, used_slot, unused_first_byte}
use Rattle.reverse_row.proofs.count.Given as goal

-- the first i slots are used
abbrev pub invariant-loop-i : goal.invariant-loop-i
invariant-loop-i l = OfReverse most_addresses l.reverse (λ rs. l.i ≤ length rs)

abbrev pub decreases-loop-i : goal.decreases-loop-i
decreases-loop-i l = most_addresses - l.i
