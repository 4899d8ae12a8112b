use borrow.Author.Rules.{rules}
use Rattle.sha256_block.specs.Block.{◌⊞◌}
use Rattle.sha256_block.proofs.word.add2.Goals as goal

pub returns : goal.returns
unfolding ◌⊞◌
returns c = search rules
