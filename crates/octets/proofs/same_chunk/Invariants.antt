use Rattle.octets.proofs.SameLaws.{Passed}
use Rattle.octets.proofs.same_chunk.Given as goal

abbrev pub invariant-loop-i : goal.invariant-loop-i
invariant-loop-i l = Passed l.a l.b l.at l.bits l.i
