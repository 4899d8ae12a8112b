use Prim.Native.Nat.{◌-◌}
use lib.ListN.{length}
use Rattle.row.proofs.FillingLaws.{Filled}
use Rattle.row.proofs.read.Given as goal

abbrev pub invariant-loop-s : goal.invariant-loop-s
invariant-loop-s l = Filled l.text l.fn.row l.s l.row

abbrev pub decreases-loop-s : goal.decreases-loop-s
decreases-loop-s l = length l.row - l.s.count
