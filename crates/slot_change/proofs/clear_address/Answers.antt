use mathlib.Core.Path.{ap, ◌∙◌}
use native.Mathlib.Omega.{arith}
use borrow.Author.Rules.{rules}
use Rattle.slots.specs.Promise.{field_cleared}
use Rattle.slots.specs.Sizes.{field_size, field_at, field_bit}
use Rattle.slots.specs.declared.Rtype.{Rtype}
use Rattle.slots.proofs.EffectLaws.{field_bit_some, field_fits}
use Rattle.slot_change.proofs.clear_address.Goals as goal

pub clear_field-requires : goal.clear_field-requires
clear_field-requires c =
    let k = c.address_type-rtype.result in
    (c.requires, omega (arith, field_fits k), omega (arith, field_bit_some k))

pub returns : goal.returns
returns c =
    let s = c.args.slot.now in
    c.clear_field.ensures ∙ (λ i. field_cleared s (c.field_bit.ensures i) (c.field_offset.ensures i) (c.field_size.ensures i))
    ∙ ap (λ (k : Rtype). field_cleared s (field_bit k) (field_at k) (field_size k)) c.address_type-rtype.ensures
