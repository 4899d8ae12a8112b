use Rattle.slots.specs.Sizes.{most_names}
use Rattle.table.proofs.RemovalLaws.{can_carry_out, carried_out}
use borrow.Author.Rules.{rules}
use Rattle.table.proofs.step.remove.Goals as goal

pub carry_out-requires : goal.carry_out-requires
carry_out-requires c =
    let s = c.requires in
    can_carry_out s.table _ _ _ _ most_names _ s.slots _ (c.removal_for-removal.ensures s.table s.slots)

pub returns : goal.returns
returns c = λ t h.
    carried_out t _ _ _ _ most_names _ h _ (c.removal_for-removal.ensures t h) _ _ c.carry_out.ensures
