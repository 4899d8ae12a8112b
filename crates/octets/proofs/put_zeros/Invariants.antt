use Rattle.std.proofs.Common.{◌≡◌, length, take, replicate}
use Rattle.octets.proofs.put_zeros.Given as goal

abbrev pub invariant-loop-b : goal.invariant-loop-b
invariant-loop-b l = (length l.b-items ≡ l.size) × (take l.b-index l.b-items ≡ replicate l.b-index 0)
