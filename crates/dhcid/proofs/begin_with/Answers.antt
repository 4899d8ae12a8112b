use borrow.Author.Rules.{rules}
use native.Mathlib.Omega.{arith}
use lib.ListN.{length, drop_of_length-le}
use Prim.Native.Nat.{◌≤◌}
use Rattle.hash.proofs.Theorems.{begun, taken}
use Rattle.dhcid.proofs.begin_with.Goals as goal

pub returns-then-head-eq0 : goal.returns-then-head-eq0
returns-then-head-eq0 c =
    let head = c.args.head.now in
    let none : length head ≤ 0 = omega arith in
    rw (drop_of_length-le head {i = 0} none) (begun _ c.begin-state.ensures)

pub returns : goal.returns
returns c = taken _ _ _ _ (begun _ c.begin-state.ensures) c.take.ensures
