use Rattle.sha256_block.specs.Block.{T₂}
use borrow.Author.Rules.{rules}
use Rattle.sha256_block.proofs.t2.Goals as goal

pub returns : goal.returns
unfolding T₂
returns c = cc
