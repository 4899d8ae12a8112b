use mathlib.Core.Path.{sym, ap, ◌∙◌}
use native.Mathlib.Omega.{arith}
use lib.ListN.{length, length-set}
use borrow.Author.Rules.{rules}
use Rattle.name.specs.Name.{canonical}
use Rattle.name.proofs.NameLaws.{length_canonical}
use Rattle.slots.proofs.EffectLaws.{long, small, named, holder_put, address_put}
use Rattle.slot_change.proofs.enter.Goals as goal

pub bounds-slot-0 : goal.bounds-slot-0
bounds-slot-0 c = omega (arith, ap length c.requires.0)

pub put_canonical-requires : goal.put_canonical-requires
put_canonical-requires c =
    let a = c.args in
    omega (arith, c.requires.1, ap length c.requires.0, length-set a.slot.now 0 (length a.name.now))

pub put_field-requires : goal.put_field-requires
put_field-requires c =
    let n = c.args.name.now in
    let s = named c.args.slot.now (canonical n) (length n) c.requires.0 (sym (length_canonical n)) (omega (arith, c.requires.1, length_canonical n)) c.put_canonical.ensures in
    (long s, omega (arith, c.requires.2), omega arith, omega (arith, small s))

pub put_address-requires : goal.put_address-requires
put_address-requires c =
    let n = c.args.name.now in
    let s = named c.args.slot.now (canonical n) (length n) c.requires.0 (sym (length_canonical n)) (omega (arith, c.requires.1, length_canonical n)) c.put_canonical.ensures in
    let held = holder_put s c.args.dhcid.now c.requires.2 c.put_field.ensures in
    (long held, small held, c.requires.3)

pub shape_of-slot : goal.shape_of-slot
shape_of-slot c =
    let n = c.args.name.now in
    let s = named c.args.slot.now (canonical n) (length n) c.requires.0 (sym (length_canonical n)) (omega (arith, c.requires.1, length_canonical n)) c.put_canonical.ensures in
    let held = holder_put s c.args.dhcid.now c.requires.2 c.put_field.ensures in
    long (address_put held c.args.family c.args.address.now c.requires.3 c.put_address.ensures) ∙ sym (ap length c.requires.0)

pub returns : goal.returns
returns c =
    let n = c.args.name.now in
    let s = named c.args.slot.now (canonical n) (length n) c.requires.0 (sym (length_canonical n)) (omega (arith, c.requires.1, length_canonical n)) c.put_canonical.ensures in
    let held = holder_put s c.args.dhcid.now c.requires.2 c.put_field.ensures in
    (address_put held c.args.family c.args.address.now c.requires.3 c.put_address.ensures).form
