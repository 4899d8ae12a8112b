use borrow.Author.Rules.{rules}
use native.Mathlib.Omega.{arith}
use Prim.Native.Nat.{◌-◌}
use mathlib.Core.Path.{refl}
use lib.ListN.{get_or}
use Rattle.base.proofs.Fill.{Filled, filled_none, filled_more, filled_all}
use Rattle.sha256_block.specs.Block.{◌⊞◌, sums}
use Rattle.sha256_block.proofs.sums.Given as goal

abbrev pub invariant-loop-i : goal.invariant-loop-i
invariant-loop-i l = Filled (λ k. get_or l.v k 0 ⊞ get_or l.h k 0) 8 l.s l.i

abbrev pub decreases-loop-i : goal.decreases-loop-i
decreases-loop-i l = 8 - l.i
