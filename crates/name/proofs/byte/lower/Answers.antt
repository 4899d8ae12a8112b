use Rattle.std.proofs.Common.{arith}
use Rattle.std.proofs.lemmas.Grind.{common_steps}
use Rattle.name.specs.Label.{lower, is_upper}
use Rattle.name.proofs.byte.lower.Goals as goal

pub returns : goal.returns
unfolding lower is_upper
returns c = grind (arith, common_steps)
