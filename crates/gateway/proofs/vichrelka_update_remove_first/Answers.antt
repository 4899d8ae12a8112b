use Rattle.base.specs.Answer.{Tells}
use borrow.Author.Rules.{rules}
use Rattle.gateway.proofs.vichrelka_update_remove_first.Goals as goal

pub returns : goal.returns
unfolding Tells
returns c =
    let step = c.write in
    (step.result, c.for_c.ensures.told, c.for_c.ensures.small, step.ensures)
