use Prim.Native.Nat.{◌+◌}
use lib.ListN.{drop}
use Rattle.base.proofs.Fill.{Copied}
use Rattle.octets.proofs.move_up.Given as goal

abbrev pub invariant-loop-i : goal.invariant-loop-i
invariant-loop-i l = Copied l.initial.row l.at (drop (l.at + l.size) l.initial.row) l.row l.i
