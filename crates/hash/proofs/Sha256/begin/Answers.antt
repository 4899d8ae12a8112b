use borrow.Author.Rules.{rules}
use Rattle.hash.specs.Sha256.{H₀}
use Rattle.hash.proofs.Sha256.begin.Goals as goal

pub returns : goal.returns
unfolding H₀
returns c = search rules
