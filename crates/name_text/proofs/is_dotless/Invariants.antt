use Prim.Native.Nat.{◌-◌}
use Rattle.name.proofs.LeadLaws.{Dotless}
use Rattle.name_text.proofs.is_dotless.Given as goal

abbrev pub invariant-loop-i : goal.invariant-loop-i
invariant-loop-i l = Dotless l.word l.at l.dotless l.i

abbrev pub decreases-loop-i : goal.decreases-loop-i
decreases-loop-i l = 16 - l.i
