use borrow.Author.Rules.{rules}
use Rattle.demands.proofs.Theorems.{demand_3}
use Rattle.demands.proofs.row_read.Goals as goal

pub returns : goal.returns
returns c = demand_3.row _ _ _ _ c.read_four.ensures
