use Prim.Native.Nat.{◌-◌}
use mathlib.Core.Path.{◌≡◌}
use native.Mathlib.Omega.{arith}
use lib.ListN.{length}
use borrow.Author.Rules.{rules}
use Rattle.table_load.specs.Promise.{Filled}
use Rattle.table_load.proofs.FillLaws.{filled_none, filled_all}
use Rattle.table_load.proofs.fill.Goals as goal

pub loop-at-init : goal.loop-at-init
loop-at-init c = let p = c.requires.2 in (search rules, filled_none _ _ _ p.0 p.1 c.make_empty.ensures)

pub store_next-on-requires : goal.store_next-on-requires
store_next-on-requires c = (c.loop-at-test.true, c.requires.1, c.loop-at.invariant.1)

pub loop-at-smaller : goal.loop-at-smaller
loop-at-smaller c = omega (arith, c.store_next-on.ensures.at_lt_at)

pub loop-at-preserved : goal.loop-at-preserved
loop-at-preserved c = (search rules, c.store_next-on.ensures.filled)

pub returns : goal.returns
returns c = filled_all _ _ _ _ c.loop-at.invariant.1 (omega arith)
