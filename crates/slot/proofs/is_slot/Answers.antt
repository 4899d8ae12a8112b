use Rattle.base.proofs.Tests.{no_by, decides_as}
use Rattle.slots.proofs.SlotLaws.{slot_name_field, slot_fields, is_slot}
use Rattle.slot.proofs.is_slot.Goals as goal

pub returns-then-is_name_field : goal.returns-then-is_name_field
returns-then-is_name_field c =
    decides_as (is_slot _ c.requires (c.is_name_field.ensures.if_true c.if-is_name_field.true)) (slot_fields _) c.are_fields.ensures

pub returns-else-is_name_field : goal.returns-else-is_name_field
returns-else-is_name_field c =
    let no-name = c.if-is_name_field.false in
    rw no-name (no_by (λ h. c.is_name_field.ensures.if_false no-name (slot_name_field _ h)))
