use mathlib.Core.Path.{◌≡◌, ◌∙◌}
use Prim.Native.Nat.{◌-◌, ◌≤◌}
use native.Mathlib.Omega.{arith}
use lib.ListN.{length}
use borrow.Author.Rules.{rules}
use Rattle.test_books.proofs.fill.Goals as goal
use Rattle.test_books.proofs.fill.Goals.{then-for_c-eq0, else-for_c-eq0}

pub loop-i-preserved : goal.loop-i-preserved
loop-i-preserved c =
    let l = c.loop-i in
    (c.add-answer.auto.table ∙ l.invariant.0, elim c.if-for_c-eq0.branch [ then-for_c-eq0 w ↦ omega arith | else-for_c-eq0 w ↦ omega arith ], omega arith)
