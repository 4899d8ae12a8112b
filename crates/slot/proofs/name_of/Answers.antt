use native.Mathlib.Omega.{arith}
use Rattle.slots.proofs.EffectLaws.{of_slot, long, held_name}
use Rattle.slot.proofs.name_of.Goals as goal

pub bounds-slot-0 : goal.bounds-slot-0
bounds-slot-0 c = omega (arith, long (of_slot c.args.slot.now c.requires))

pub slice_bounds-result-end : goal.slice_bounds-result-end
slice_bounds-result-end c = omega (arith, c.type_inv.slot 0, long (of_slot c.args.slot.now c.requires))

pub returns : goal.returns
returns c = λ e w form. held_name w form
