use mathlib.Core.Path.{refl, sym, ◌∙◌}
use Rattle.table.proofs.EntryLaws.{add_by_hand, add_same, add_first_wins, add_latest_wins}
use borrow.Author.Rules.{rules}
use Rattle.table.proofs.step.add_held.Goals as goal

pub returns-then-policy-eq-FIRST_WINS : goal.returns-then-policy-eq-FIRST_WINS
returns-then-policy-eq-FIRST_WINS c = λ e w form.
    add_first_wins e _ _ _ _ _ _ (sym (c.holding-holder.ensures e w form) ∙ c.in-ByAnother.is) c.if-policy-eq-FIRST_WINS.true c.refused-then-policy-eq-FIRST_WINS.ensures form

pub returns-in-ByHand : goal.returns-in-ByHand
returns-in-ByHand c = λ e w form.
    add_by_hand e _ _ _ _ _ _ (sym (c.holding-holder.ensures e w form) ∙ c.in-ByHand.is) c.refused.ensures form

pub returns-in-ByThis : goal.returns-in-ByThis
returns-in-ByThis c = λ e w form.
    add_same e _ _ _ _ _ _ (sym (c.holding-holder.ensures e w form) ∙ c.in-ByThis.is) refl (c.refresh.ensures e w form)

pub returns-else-policy-eq-FIRST_WINS : goal.returns-else-policy-eq-FIRST_WINS
returns-else-policy-eq-FIRST_WINS c = λ e w form.
    add_latest_wins e _ _ _ _ _ _ (sym (c.holding-holder.ensures e w form) ∙ c.in-ByAnother.is) c.if-policy-eq-FIRST_WINS.false refl (c.take_over.ensures e w form)
