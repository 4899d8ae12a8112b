use lib.ListN.{get_or}
use Rattle.base.proofs.Fill.{Filled}
use Rattle.address.proofs.read_a.Given as goal

abbrev pub invariant-loop-i : goal.invariant-loop-i
invariant-loop-i l = Filled (λ k. get_or l.values k 0) 4 l.bytes l.i
