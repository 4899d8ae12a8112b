use mathlib.Core.Path.{refl}
use Rattle.message4.specs.Reading4.{is_bootrequest}
use Rattle.message4.proofs.is_bootrequest.Goals as goal

pub returns : goal.returns
unfolding is_bootrequest
returns c = refl
