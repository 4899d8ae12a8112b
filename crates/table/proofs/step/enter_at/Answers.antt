use mathlib.Core.Path.{ap, ◌∙◌}
use Rattle.table.specs.Promise.{in_slot}
use Rattle.table.proofs.StepLaws.{lent_slot, put_in}
use borrow.Author.Rules.{rules}
use Rattle.table.proofs.step.enter_at.Goals as goal

pub enter-requires : goal.enter-requires
enter-requires c = (lent_slot c.args.table.now c.args.at ∙ c.requires.1, c.requires.2, c.requires.3, c.requires.4)

pub returns : goal.returns
returns c =
    put_in c.args.table.now c.args.at _ ∙ ap (in_slot c.args.table.now c.args.at) c.enter.ensures
