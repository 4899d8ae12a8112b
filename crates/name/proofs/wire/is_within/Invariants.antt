use Prim.Native.Nat.{◌-◌, ◌≤◌}
use lib.ListN.{length}
use Rattle.name.specs.Name.{canonical}
use Rattle.name.proofs.WithinLaws.{Walked}
use Rattle.name.proofs.wire.is_within.Given as goal

abbrev pub invariant-loop-at : goal.invariant-loop-at
invariant-loop-at l = Walked l.name (canonical l.zone) l.at × (1 ≤ length l.zone) × (length l.name ≤ 255)

abbrev pub decreases-loop-at : goal.decreases-loop-at
decreases-loop-at l = length l.name - l.at
