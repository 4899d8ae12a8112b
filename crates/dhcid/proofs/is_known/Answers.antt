use mathlib.Core.Path.{refl}
use Rattle.dhcid.specs.Choosing.{is_known}
use Rattle.dhcid.proofs.is_known.Goals as goal

pub returns : goal.returns
unfolding is_known
returns c = refl
