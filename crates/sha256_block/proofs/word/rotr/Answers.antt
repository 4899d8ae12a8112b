use borrow.Author.Rules.{rules}
use Rattle.sha256_block.specs.Block.{ROTR}
use Rattle.sha256_block.proofs.word.rotr.Goals as goal

pub returns : goal.returns
unfolding ROTR
returns c = search rules
