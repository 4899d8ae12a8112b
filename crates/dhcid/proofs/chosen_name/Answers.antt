use mathlib.Core.Path.{subst}
use Rattle.dhcid.specs.Handing.{HandsOn}
use Rattle.dhcid.specs.declared.Chosen.{Chosen}
use Rattle.dhcid.proofs.ChoiceLaws.{lies_as}
use Rattle.dhcid.proofs.chosen_name.Goals as goal

pub name_of-requires : goal.name_of-requires
name_of-requires c =
    let start = c.args in
    (lies_as start.family start.setting start.message.now start.site.now c.choose.result c.choose.ensures).inside

pub returns : goal.returns
returns c =
    let start = c.args in
    subst (λ (d : Chosen). HandsOn start.message start.site d c.name_of.result) c.choose.ensures c.name_of.ensures
