use Rattle.demands.proofs.Theorems.{demand_1}
use borrow.Author.Rules.{rules}
use Rattle.demands.proofs.listing_step.Goals as goal

pub returns : goal.returns
returns c = (c.peek_at.ensures, demand_1.reader _ _ _ c.peek_at.ensures)
