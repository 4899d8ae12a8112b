use mathlib.Core.Logic.{inl, inr, ⊎_elim}
use borrow.Author.Tests.{eqb-true, eqb-false}
use Rattle.base.proofs.Tests.{yes_by}
use Rattle.table.proofs.arguments.is_policy.Goals as goal

pub returns-then-policy-eq-FIRST_WINS : goal.returns-then-policy-eq-FIRST_WINS
returns-then-policy-eq-FIRST_WINS c = yes_by (inl c.if-policy-eq-FIRST_WINS.true)

pub returns : goal.returns
returns c =
    let n = c.args.policy in
    record { if_true = λ t. inr (eqb-true n 1 t); if_false = λ f k. ⊎_elim (λ e. c.if-policy-eq-FIRST_WINS.false e) (λ e. eqb-false n 1 f e) k }
