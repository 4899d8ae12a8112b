use Rattle.sha256_block.specs.Block.{Σ₁}
use borrow.Author.Rules.{rules}
use Rattle.sha256_block.proofs.word.big_sigma1.Goals as goal

pub returns : goal.returns
unfolding Σ₁
returns c = cc
