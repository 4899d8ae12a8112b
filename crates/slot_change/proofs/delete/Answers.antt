use borrow.Author.Rules.{rules}
use Rattle.slots.proofs.EffectLaws.{slot_of_lem, of_slot, long, address_cleared}
use Rattle.slot_change.proofs.delete.Goals as goal

pub clear_address-requires : goal.clear_address-requires
clear_address-requires c = long (of_slot c.args.slot.now c.requires)

pub returns : goal.returns
returns c = λ e w form. (address_cleared (slot_of_lem w form) c.args.family c.clear_address.ensures).form
