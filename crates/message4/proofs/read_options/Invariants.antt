use Prim.Native.Nat.{◌-◌}
use lib.ListN.{length}
use Rattle.message4.proofs.WalkLaws4.{Passed}
use Rattle.message4.proofs.read_options.Given as goal

abbrev pub invariant-loop-i : goal.invariant-loop-i
invariant-loop-i l = Passed l.message l.i l.wanted

abbrev pub decreases-loop-i : goal.decreases-loop-i
decreases-loop-i l = length l.message - l.i
