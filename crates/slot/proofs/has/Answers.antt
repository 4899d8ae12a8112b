use Prim.Native.Nat.{ℕ}
use mathlib.Core.Path.{ap, ◌∙◌}
use native.Mathlib.Omega.{arith}
use lib.ListN.{get_or}
use Rattle.slots.specs.Promise.{is_set}
use Rattle.slots.proofs.EffectLaws.{slot_of_lem, of_slot, long, field_flag}
use Rattle.slot.proofs.has.Goals as goal

pub bounds-slot-256 : goal.bounds-slot-256
bounds-slot-256 c = omega (arith, long (of_slot c.args.slot.now c.requires))

pub returns : goal.returns
returns c =
    λ e w form. c.is_set.ensures ∙ ap (λ (k : ℕ). is_set k (get_or c.args.slot.now 256 0)) c.field_bit.ensures ∙ field_flag (slot_of_lem w form) c.args.rtype
