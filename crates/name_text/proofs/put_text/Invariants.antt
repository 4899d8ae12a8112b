use Prim.Native.Nat.{◌-◌}
use Rattle.name.proofs.DottedLaws.{Dotting}
use Rattle.name_text.proofs.put_text.Given as goal

abbrev pub invariant-loop-i : goal.invariant-loop-i
invariant-loop-i l = Dotting l.initial.to l.at l.name l.to l.i

abbrev pub decreases-loop-i : goal.decreases-loop-i
decreases-loop-i l = l.n - l.i
