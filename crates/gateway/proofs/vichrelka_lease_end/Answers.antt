use Rattle.base.specs.Answer.{Tells}
use borrow.Author.Rules.{rules}
use Rattle.gateway.proofs.vichrelka_lease_end.Goals as goal

pub returns : goal.returns
unfolding Tells
returns c =
    let step = c.end in
    (step.result, c.for_c.ensures.told, c.for_c.ensures.small, step.ensures)
