use mathlib.Core.Path.{sym, subst}
use borrow.Author.Rules.{rules}
use native.Mathlib.Omega.{arith}
use Rattle.row.specs.Row.{Begins}
use Rattle.row.proofs.BeginLaws.{begins_refused, begins_short, begins_whole}
use Rattle.row.proofs.begin.Goals as goal

pub returns-then-places-total : goal.returns-then-places-total
returns-then-places-total c =
    let a = c.args in
    subst (Begins a.text.now a.places) (sym c.refused-then-places-total.ensures) (begins_short a.text.now a.places c.check.result c.check.ensures _ c.in-Accepted.is (omega arith))

pub returns-in-Refused : goal.returns-in-Refused
returns-in-Refused c =
    let a = c.args in
    subst (Begins a.text.now a.places) (sym c.refused.ensures) (begins_refused a.text.now a.places c.check.result c.check.ensures _ _ c.in-Refused.is)

pub returns-else-places-total : goal.returns-else-places-total
returns-else-places-total c =
    let a = c.args in
    begins_whole a.text.now a.places c.check.result c.check.ensures _ c.in-Accepted.is (omega arith)
