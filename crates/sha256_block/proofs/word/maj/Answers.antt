use borrow.Author.Rules.{rules}
use Rattle.sha256_block.specs.Block.{Maj}
use Rattle.sha256_block.proofs.word.maj.Goals as goal

pub returns : goal.returns
unfolding Maj
returns c = search rules
