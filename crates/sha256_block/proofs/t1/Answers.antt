use Rattle.sha256_block.specs.Block.{T₁}
use borrow.Author.Rules.{rules}
use Rattle.sha256_block.proofs.t1.Goals as goal

pub returns : goal.returns
unfolding T₁
returns c = cc
