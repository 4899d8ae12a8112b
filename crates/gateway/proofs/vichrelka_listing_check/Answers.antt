use Rattle.base.specs.Answer.{Tells}
use borrow.Author.Rules.{rules}
use Rattle.gateway.proofs.vichrelka_listing_check.Goals as goal

pub returns : goal.returns
unfolding Tells
returns c = (c.check.result, c.for_c.ensures.told, c.for_c.ensures.small, c.check.ensures)
