use Prim.Native.Nat.{◌-◌, ◌≤◌}
use mathlib.Core.Path.{◌≡◌}
use native.Mathlib.Omega.{arith}
use lib.ListN.{length, length-set}
use borrow.Author.Rules.{rules}
use Rattle.test_loads.proofs.fill.Goals as goal

pub put-requires : goal.put-requires
put-requires c = let l = c.loop-i.invariant in simp length-set (omega (arith, l.0, l.1))
