use Prim.Native.Nat.{◌-◌, ◌≤◌}
use lib.ListN.{length}
use Rattle.name.specs.NotInLabel.{Agree}
use Rattle.name.proofs.wire.matches.Given as goal

abbrev pub invariant-loop-at : goal.invariant-loop-at
invariant-loop-at l = (l.at ≤ length l.name) × Agree l.name l.held 0 l.at

abbrev pub decreases-loop-at : goal.decreases-loop-at
decreases-loop-at l = length l.name - l.at

abbrev pub invariant-loop-i : goal.invariant-loop-i
invariant-loop-i l = Agree l.name l.held 0 l.i
