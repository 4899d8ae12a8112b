use mathlib.Core.Path.{ap, ◌∙◌}
use Rattle.base.specs.declared.Answer.TheVariants.{Accepted}
use Rattle.dhcid.specs.Chosen.{name_answer}
use Rattle.dhcid.proofs.ChoiceLaws.{lies_as}
use Rattle.dhcid.proofs.WritingLaws.{name_refused, name_chosen}
use Rattle.dhcid.proofs.locate.Goals as goal

pub returns-then-chosen-ne0 : goal.returns-then-chosen-ne0
returns-then-chosen-ne0 c = name_refused c.choose-chosen.result c.if-chosen-ne0.true ∙ ap name_answer c.choose-chosen.ensures

pub packed-requires : goal.packed-requires
packed-requires c =
    let start = c.args in
    let lies = lies_as start.family start.setting start.message.now start.site.now c.choose-chosen.result c.choose-chosen.ensures in
    (lies.near, lies.short)

pub returns : goal.returns
returns c = ap Accepted c.packed.ensures ∙ name_chosen c.choose-chosen.result c.if-chosen-ne0.false ∙ ap name_answer c.choose-chosen.ensures
