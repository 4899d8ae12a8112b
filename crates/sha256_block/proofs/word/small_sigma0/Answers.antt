use Rattle.sha256_block.specs.Block.{σ₀}
use borrow.Author.Rules.{rules}
use Rattle.sha256_block.proofs.word.small_sigma0.Goals as goal

pub returns : goal.returns
unfolding σ₀
returns c = cc
