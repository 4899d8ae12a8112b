use native.Mathlib.Omega.{arith}
use lib.ListN.{length-take}
use borrow.Author.Rules.{rules}
use Prim.Native.Nat.{◌-◌, ◌≤◌}
use Rattle.test_sha256.proofs.million.Given as goal

abbrev pub invariant-loop-n : goal.invariant-loop-n
invariant-loop-n l = l.n ≤ 1414

abbrev pub decreases-loop-n : goal.decreases-loop-n
decreases-loop-n l = 1414 - l.n
