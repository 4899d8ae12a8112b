use Rattle.std.proofs.Common.{◌+◌, refl, get_or, arith}
use Rattle.base.proofs.Tests.{no_by, decides_as}
use Rattle.slots.proofs.NameFieldLaws.{field_held, field_rest, is_field}
use Rattle.slot.proofs.is_name_field.Goals as goal

pub returns-then-is_held_name : goal.returns-then-is_held_name
returns-then-is_held_name c =
    let s = c.args.field.now in
    let byte = c.type_inv.field 0 in
    decides_as
    (is_field s (1 + get_or s 0 0) refl (omega (arith, byte)) c.requires (c.is_held_name.ensures.if_true c.if-is_held_name.true))
    (field_rest s (1 + get_or s 0 0) refl (omega (arith, byte)))
    c.are_zeros_at_once.ensures

pub returns-else-is_held_name : goal.returns-else-is_held_name
returns-else-is_held_name c =
    let s = c.args.field.now in
    let no-name = c.if-is_held_name.false in
    rw no-name (no_by (λ h. c.is_held_name.ensures.if_false no-name (field_held s (1 + get_or s 0 0) refl (omega (arith, c.type_inv.field 0)) h)))
