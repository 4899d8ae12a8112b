use mathlib.Core.Path.{refl}
use Rattle.base.specs.Bytes.{zero_filled}
use Rattle.dhcid_text.proofs.fresh.Goals as goal

pub returns : goal.returns
unfolding zero_filled
returns c = record { form = refl; count = refl; bytes = refl }
