use Rattle.base.specs.Answer.{Tells}
use borrow.Author.Rules.{rules}
use Rattle.gateway.proofs.vichrelka_table_count.Goals as goal

pub returns : goal.returns
unfolding Tells
returns c = (c.count.result, c.for_c.ensures.told, c.for_c.ensures.small, c.count.ensures)
