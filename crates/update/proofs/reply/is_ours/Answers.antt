use mathlib.Core.Logic.{inl, inr, ⊎_elim}
use borrow.Author.Tests.{eqb-true, eqb-false}
use Rattle.base.proofs.Tests.{yes_by}
use Rattle.update.proofs.reply.is_ours.Goals as goal

pub returns-then-code-eq-DONE : goal.returns-then-code-eq-DONE
returns-then-code-eq-DONE c = yes_by (inl c.if-code-eq-DONE.true)

pub returns-then-code-eq-NAME_IN_USE : goal.returns-then-code-eq-NAME_IN_USE
returns-then-code-eq-NAME_IN_USE c = yes_by (inr (inl c.if-code-eq-NAME_IN_USE.true))

pub returns-then-code-eq-SET_STANDS : goal.returns-then-code-eq-SET_STANDS
returns-then-code-eq-SET_STANDS c = yes_by (inr (inr (inl c.if-code-eq-SET_STANDS.true)))

pub returns : goal.returns
returns c =
    let n = c.args.code in
    record {
      if_true = λ t. inr (inr (inr (eqb-true n 8 t)));
      if_false = λ f k. ⊎_elim (λ e. c.if-code-eq-DONE.false e) (⊎_elim (λ e. c.if-code-eq-NAME_IN_USE.false e) (⊎_elim (λ e. c.if-code-eq-SET_STANDS.false e) (λ e. eqb-false n 8 f e))) k;
    }
