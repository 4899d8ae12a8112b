use mathlib.Core.Path.{sym, ap, ◌∙◌}
use native.Mathlib.Omega.{arith}
use lib.ListN.{length, length-set}
use Rattle.name.specs.Name.{canonical}
use Rattle.name.proofs.NameLaws.{length_canonical}
use Rattle.slots.proofs.EffectLaws.{long, small, named, field_put_lem}
use borrow.Author.Rules.{rules}
use Rattle.slot_change.proofs.enter_record.Goals as goal

pub bounds-slot-0 : goal.bounds-slot-0
bounds-slot-0 c = omega (arith, ap length c.requires.0)

pub put_canonical-requires : goal.put_canonical-requires
put_canonical-requires c =
    let a = c.args in
    omega (arith, c.requires.1, ap length c.requires.0, length-set a.slot.now 0 (length a.name.now))

pub put_data-requires : goal.put_data-requires
put_data-requires c =
    let n = c.args.name.now in
    let s = named c.args.slot.now (canonical n) (length n) c.requires.0 (sym (length_canonical n)) (omega (arith, c.requires.1, length_canonical n)) c.put_canonical.ensures in
    (long s, small s, c.requires.2)

pub shape_of-slot : goal.shape_of-slot
shape_of-slot c =
    let n = c.args.name.now in
    let s = named c.args.slot.now (canonical n) (length n) c.requires.0 (sym (length_canonical n)) (omega (arith, c.requires.1, length_canonical n)) c.put_canonical.ensures in
    long (field_put_lem s c.args.rtype c.args.bytes.now c.requires.2 c.put_data.ensures) ∙ sym (ap length c.requires.0)

pub returns : goal.returns
returns c =
    let n = c.args.name.now in
    let s = named c.args.slot.now (canonical n) (length n) c.requires.0 (sym (length_canonical n)) (omega (arith, c.requires.1, length_canonical n)) c.put_canonical.ensures in
    (field_put_lem s c.args.rtype c.args.bytes.now c.requires.2 c.put_data.ensures).form
