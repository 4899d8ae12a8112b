use mathlib.Core.Path.{ap, ◌∙◌}
use Rattle.dhcid.specs.Choosing.{chosen_for, choose}
use Rattle.dhcid.proofs.SaysLaws.{read_placed}
use Rattle.dhcid.proofs.choose.Goals as goal

pub pick-requires : goal.pick-requires
pick-requires c =
    let start = c.args in
    λ z. (read_placed start.family start.setting start.message.now c.read.result c.read.ensures z).name

pub returns : goal.returns
unfolding choose
returns c =
    let start = c.args in
    c.pick.ensures ∙ ap (chosen_for start.setting start.message.now start.site.now) c.read.ensures
