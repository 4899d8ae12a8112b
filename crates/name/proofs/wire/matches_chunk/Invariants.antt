use Prim.Native.Nat.{◌+◌}
use Rattle.base.specs.Logic.{Decides}
use Rattle.name.specs.NotInLabel.{Agree}
use Rattle.name.proofs.wire.matches_chunk.Given as goal

abbrev pub invariant-loop-i : goal.invariant-loop-i
invariant-loop-i l = Decides l.same (Agree l.name l.held l.at (l.at + l.i))
