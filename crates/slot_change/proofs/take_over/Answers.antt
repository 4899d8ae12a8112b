use mathlib.Core.Path.{ap, ◌∙◌}
use mathlib.Core.Option.{none, some}
use native.Mathlib.Omega.{arith}
use borrow.Author.Rules.{rules}
use Rattle.slots.specs.declared.Family.{Family}
use Rattle.slots.specs.Entry.{with_address, with_holder}
use Rattle.slots.specs.Form.{slot_bytes}
use Rattle.slots.proofs.EffectLaws.{slot_of_lem, of_slot, long, small, holder_put, address_cleared, address_put}
use Rattle.slot_change.proofs.take_over.Goals as goal

pub put_field-requires : goal.put_field-requires
put_field-requires c =
    let s = of_slot c.args.slot.now c.requires.0 in
    (long s, omega (arith, c.requires.1), omega arith, omega (arith, small s))

pub clear_address-requires : goal.clear_address-requires
clear_address-requires c =
    let s = of_slot c.args.slot.now c.requires.0 in
    long (holder_put s c.args.dhcid.now c.requires.1 c.put_field.ensures)

pub put_address-requires : goal.put_address-requires
put_address-requires c =
    let s = of_slot c.args.slot.now c.requires.0 in
    let held = holder_put s c.args.dhcid.now c.requires.1 c.put_field.ensures in
    let cleared = address_cleared held c.other.result c.clear_address.ensures in
    (long cleared, small cleared, c.requires.2)

pub returns : goal.returns
returns c =
    let a = c.args in
    λ e w form.
    let held = holder_put (slot_of_lem w form) a.dhcid.now c.requires.1 c.put_field.ensures in
    let cleared = address_cleared held c.other.result c.clear_address.ensures in
    (address_put cleared a.family a.address.now c.requires.2 c.put_address.ensures).form
    ∙ ap (λ (f : Family). slot_bytes (with_address a.family (some a.address.now) (with_address f none (with_holder a.dhcid.now e)))) c.other.ensures
