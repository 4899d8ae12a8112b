use Prim.Native.Nat.{◌-◌}
use Rattle.name.proofs.ReadingLaws.{Reading}
use Rattle.name_text.proofs.from_text.Given as goal

abbrev pub invariant-loop-i : goal.invariant-loop-i
invariant-loop-i l = Reading l.word l.bytes l.left l.i

abbrev pub decreases-loop-i : goal.decreases-loop-i
decreases-loop-i l = l.n - l.i
