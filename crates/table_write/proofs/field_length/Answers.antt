use mathlib.Core.Path.{sym, ap, ◌∙◌}
use lib.ListN.{length}
use native.Mathlib.Omega.{arith}
use borrow.Author.Tests.{not-true, not-false}
use Rattle.name.proofs.WireLaws.{proper_some, proper_short}
use Rattle.writer.proofs.PartLaws.{rest_most}
use Rattle.slots.specs.Form.{IsSlot}
use Rattle.slots.proofs.EffectLaws.{slot_of_lem, of_slot, data_first}
use Rattle.table_write.proofs.TextLaws.{field_none}
use Rattle.table_write.proofs.WriteLaws.{line_size}
use borrow.Author.Rules.{rules}
use Rattle.table_write.proofs.field_length.Goals as goal

pub returns-then-not-has : goal.returns-then-not-has
returns-then-not-has c =
    λ e w form. sym (ap length (field_none c.args.rtype e (sym (c.has.ensures e w form) ∙ c.if-not-has.true)))

pub overflow_sub-result : goal.overflow_sub-result
unfolding IsSlot
overflow_sub-result c =
    let h = c.requires in
    omega (arith, ap length (c.name_of-name.ensures h.0 h.1 h.2), proper_some h.0.name h.1.proper)

pub rest_length-requires : goal.rest_length-requires
rest_length-requires c =
    (data_first (of_slot c.args.slot.now c.requires) c.args.rtype c.data_from.ensures).0

pub overflow_add-result : goal.overflow_add-result
unfolding IsSlot
overflow_add-result c =
    let h = c.requires in
    omega (
      arith,
      ap length (c.name_of-name.ensures h.0 h.1 h.2),
      proper_short h.0.name h.1.proper,
      c.rest_length.ensures,
      rest_most c.rtype_number.result c.data_from.result.now (data_first (of_slot c.args.slot.now h) c.args.rtype c.data_from.ensures).0,
    )

pub returns : goal.returns
returns c =
    let k = c.args.rtype in
    let bs = c.data_from.result.now in
    λ e w form.
    let held = sym (c.has.ensures e w form) ∙ c.if-not-has.false in
    omega (arith, c.rest_length.ensures, line_size k e bs (c.name_of-name.ensures e w form) c.rtype_number.ensures held (data_first (slot_of_lem w form) k c.data_from.ensures))
