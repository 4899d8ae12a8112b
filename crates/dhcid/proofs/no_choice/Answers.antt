use mathlib.Core.Path.{refl}
use Rattle.dhcid.specs.Chosen.{no_choice}
use Rattle.dhcid.proofs.no_choice.Goals as goal

pub returns : goal.returns
unfolding no_choice
returns c = refl
