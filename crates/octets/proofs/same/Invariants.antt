use Rattle.std.proofs.Common.{◌≡◌, ◌*◌, take}
use Rattle.octets.proofs.same.Given as goal

abbrev pub invariant-loop-i : goal.invariant-loop-i
invariant-loop-i l = take (16 * l.i) l.a ≡ take (16 * l.i) l.b

abbrev pub invariant-loop-i-2 : goal.invariant-loop-i-2
invariant-loop-i-2 l = take l.i l.a ≡ take l.i l.b
