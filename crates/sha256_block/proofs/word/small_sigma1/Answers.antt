use Rattle.sha256_block.specs.Block.{σ₁}
use borrow.Author.Rules.{rules}
use Rattle.sha256_block.proofs.word.small_sigma1.Goals as goal

pub returns : goal.returns
unfolding σ₁
returns c = cc
