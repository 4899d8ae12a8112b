use Rattle.sha256_block.specs.Block.{Σ₀}
use borrow.Author.Rules.{rules}
use Rattle.sha256_block.proofs.word.big_sigma0.Goals as goal

pub returns : goal.returns
unfolding Σ₀
returns c = cc
