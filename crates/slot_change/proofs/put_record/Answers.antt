use Rattle.slots.proofs.EffectLaws.{slot_of_lem, of_slot, long, small, field_put_lem}
use borrow.Author.Rules.{rules}
use Rattle.slot_change.proofs.put_record.Goals as goal

pub put_data-requires : goal.put_data-requires
put_data-requires c =
    let s = of_slot c.args.slot.now c.requires.0 in
    (long s, small s, c.requires.1)

pub returns : goal.returns
returns c =
    let a = c.args in
    λ e w form. (field_put_lem (slot_of_lem w form) a.rtype a.bytes.now c.requires.1 c.put_data.ensures).form
