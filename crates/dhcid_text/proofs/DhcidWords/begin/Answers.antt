use mathlib.Core.Path.{refl}
use Rattle.dhcid_text.specs.DhcidReading.{After}
use Rattle.dhcid_text.proofs.DhcidWords.begin.Goals as goal

pub returns : goal.returns
returns c = After.nothing c.fresh.ensures.form refl
