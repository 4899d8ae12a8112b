use borrow.Author.Rules.{rules}
use Rattle.slots.proofs.EffectLaws.{slot_of_lem, of_slot, long, small, address_put}
use Rattle.slot_change.proofs.refresh.Goals as goal

pub put_address-requires : goal.put_address-requires
put_address-requires c =
    let s = of_slot c.args.slot.now c.requires.0 in
    (long s, small s, c.requires.1)

pub returns : goal.returns
returns c =
    let a = c.args in
    λ e w form. (address_put (slot_of_lem w form) a.family a.address.now c.requires.1 c.put_address.ensures).form
