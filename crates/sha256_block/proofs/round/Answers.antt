use Rattle.sha256_block.specs.Block.{round}
use borrow.Author.Rules.{rules}
use Rattle.sha256_block.proofs.round.Goals as goal

pub returns : goal.returns
unfolding round
returns c = cc
