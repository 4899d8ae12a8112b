use mathlib.Core.Path.{refl, ap, ◌∙◌}
use Rattle.table.proofs.StepLaws.{slot_size_lem, lent_slot, leaves_slot}
use borrow.Author.Rules.{rules}
use Rattle.table.proofs.step.add_at.Goals as goal

pub add_held-requires : goal.add_held-requires
add_held-requires c = (rw (slot_size_lem c.args.at) c.requires.1, c.requires.2, c.requires.3)

pub returns : goal.returns
returns c = λ e w form.
    leaves_slot c.args.table.now c.args.at _ _ _ _ refl (c.add_held.ensures e w (lent_slot c.args.table.now c.args.at ∙ form))
