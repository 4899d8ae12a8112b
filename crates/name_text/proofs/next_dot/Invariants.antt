use Prim.Native.Nat.{◌-◌}
use lib.ListN.{length}
use Rattle.name.proofs.LeadLaws.{Passing}
use Rattle.name_text.proofs.next_dot.Given as goal

abbrev pub invariant-loop-i : goal.invariant-loop-i
invariant-loop-i l = Passing l.word l.at l.i

abbrev pub decreases-loop-i : goal.decreases-loop-i
decreases-loop-i l = length l.word - l.i
