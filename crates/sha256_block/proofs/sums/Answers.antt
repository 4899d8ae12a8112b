use borrow.Author.Rules.{rules}
use native.Mathlib.Omega.{arith}
use Prim.Native.Nat.{◌-◌}
use mathlib.Core.Path.{refl}
use lib.ListN.{get_or}
use Rattle.base.proofs.Fill.{Filled, filled_none, filled_more, filled_all}
use Rattle.sha256_block.specs.Block.{◌⊞◌, sums}
use Rattle.sha256_block.proofs.sums.Goals as goal

pub loop-i-init : goal.loop-i-init
loop-i-init c = filled_none _ _ _ refl

pub loop-i-preserved : goal.loop-i-preserved
loop-i-preserved c = filled_more _ _ _ _ _ c.loop-i.invariant (omega arith) c.add2.ensures

pub returns : goal.returns
unfolding sums
returns c = filled_all _ _ _ c.loop-i.i c.loop-i.invariant (omega arith)
