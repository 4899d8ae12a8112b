use Prim.Native.Nat.{◌-◌}
use Rattle.name.proofs.NotInLabelLaws.{Hopped}
use Rattle.name.proofs.wire.is_canonical.Given as goal

abbrev pub invariant-loop-i : goal.invariant-loop-i
invariant-loop-i l = Hopped l.name l.left l.i

abbrev pub decreases-loop-i : goal.decreases-loop-i
decreases-loop-i l = l.n - l.i
