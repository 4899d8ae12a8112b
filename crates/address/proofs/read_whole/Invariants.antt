use Prim.Native.Nat.{ℕ, ◌<◌}
use Rattle.base.proofs.Fill.{Filled}
use Rattle.address.proofs.WholeLaws.{byte_at, Spelled}
use Rattle.address.proofs.read_whole.Given as goal

abbrev pub invariant-loop-k : goal.invariant-loop-k
invariant-loop-k l = Filled (byte_at l.word) 16 l.bytes l.k × ((m : ℕ) → m < l.k → Spelled l.word m)
