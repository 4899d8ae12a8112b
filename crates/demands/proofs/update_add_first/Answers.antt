use mathlib.Core.Path.{refl}
use Rattle.base.specs.Answer.{Tells}
use Rattle.update.specs.declared.Kind.TheVariants.{AddFirst}
use Rattle.demands.proofs.AnswerLaws.{positive, numbered_in_row, told_c}
use Rattle.demands.proofs.UpdateLaws.{message_in_row}
use Rattle.demands.proofs.Theorems.{demand_1}
use borrow.Author.Rules.{rules}
use Rattle.demands.proofs.update_add_first.Goals as goal

pub returns : goal.returns
unfolding Tells positive
returns c =
    let e = c.vichrelka_update_add_first.ensures in
    let one = demand_1.add_first _ _ _ _ _ _ _ _ _ e.3 in
    told_c e.0 e.1 e.2 (numbered_in_row _ refl (message_in_row _ _ _ _ AddFirst _ _ _ _ _ e.3)) (e.3, one.0, one.1)
