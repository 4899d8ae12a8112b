use Rattle.base.specs.Answer.{Tells}
use borrow.Author.Rules.{rules}
use Rattle.gateway.proofs.vichrelka_table_find.Goals as goal

pub returns : goal.returns
unfolding Tells
returns c = (c.find.result, c.for_c.ensures.told, c.for_c.ensures.small, c.find.ensures)
