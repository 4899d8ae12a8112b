use mathlib.Core.Path.{ap, ◌∙◌}
use Rattle.table.specs.Promise.{in_slot}
use Rattle.table.proofs.StepLaws.{slot_size_lem, lent_slot, put_in}
use borrow.Author.Rules.{rules}
use Rattle.table.proofs.step.delete_at.Goals as goal

pub delete-requires : goal.delete-requires
delete-requires c = rw (slot_size_lem c.args.at) c.requires.1

pub returns : goal.returns
returns c = λ e w form.
    let a = c.args in
    let t = a.table.now in
    put_in t a.at _ ∙ ap (in_slot t a.at) (c.delete.ensures e w (lent_slot t a.at ∙ form))
