use mathlib.Core.Path.{sym, ap, ◌∙◌}
use borrow.Author.Rules.{rules}
use Rattle.slots.specs.Promise.{field_put}
use Rattle.slots.specs.Sizes.{field_size, field_at, field_bit}
use Rattle.slots.specs.declared.Rtype.{Rtype}
use Rattle.slot_change.proofs.put_address.Goals as goal

pub put_data-requires : goal.put_data-requires
put_data-requires c = (c.requires.0, c.requires.1, c.requires.2 ∙ ap field_size (sym c.address_type.ensures))

pub returns : goal.returns
returns c =
    let a = c.args in
    c.put_data.ensures ∙ ap (λ (k : Rtype). field_put a.slot.now (field_bit k) (field_at k) a.address.now) c.address_type.ensures
