use mathlib.Core.Bool.{Bool, cond}
use mathlib.Core.Path.{sym, ap, ◌∙◌}
use lib.ListN.{length}
use borrow.Author.Tests.{not-true, not-false}
use Rattle.base.specs.Refusal.{entry_shape}
use Rattle.entry.specs.EntryAt.{fault_before, faulty_from}
use borrow.Author.Rules.{rules}
use Rattle.entry.proofs.faulty.Goals as goal

pub returns-then-not-shape_is_right : goal.returns-then-not-shape_is_right
unfolding faulty_from
returns-then-not-shape_is_right c =
    let a = c.args in
    c.fault.ensures ∙ ap (λ (b : Bool). fault_before (cond b a.number entry_shape) (length a.text.now)) (sym c.if-not-shape_is_right.true ∙ c.shape_is_right.ensures)

pub returns : goal.returns
unfolding faulty_from
returns c =
    let a = c.args in
    c.fault-2.ensures ∙ ap (λ (b : Bool). fault_before (cond b a.number entry_shape) (length a.text.now)) (sym c.if-not-shape_is_right.false ∙ c.shape_is_right.ensures)
