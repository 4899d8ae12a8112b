use borrow.Author.Rules.{rules}
use Rattle.table_fault.specs.Sweeping.{tagged}
use Rattle.table_fault.proofs.tagged.Goals as goal

pub returns : goal.returns
unfolding tagged
returns c = search rules
