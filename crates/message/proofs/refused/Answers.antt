use mathlib.Core.Path.{refl}
use Rattle.message.specs.Request.{refused_request}
use Rattle.message.proofs.refused.Goals as goal

pub returns : goal.returns
unfolding refused_request
returns c = refl
