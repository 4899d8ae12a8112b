use borrow.Author.Rules.{rules}
use Rattle.sha256_block.specs.Block.{Ch}
use Rattle.sha256_block.proofs.word.ch.Goals as goal

pub returns : goal.returns
unfolding Ch
returns c = search rules
