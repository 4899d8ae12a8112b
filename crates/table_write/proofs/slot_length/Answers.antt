use native.Mathlib.Omega.{arith}
use Rattle.slots.specs.Form.{IsSlot}
use Rattle.table_write.proofs.TextLaws.{length_entry, text_most}
use borrow.Author.Rules.{rules}
use Rattle.table_write.proofs.slot_length.Goals as goal

pub overflow_add-result : goal.overflow_add-result
unfolding IsSlot
overflow_add-result c =
    let h = c.requires in
    omega (
      arith,
      c.field_length.ensures h.0 h.1 h.2,
      c.field_length-2.ensures h.0 h.1 h.2,
      length_entry h.0,
      text_most h.0 h.1,
    )

pub overflow_add-result-2 : goal.overflow_add-result-2
unfolding IsSlot
overflow_add-result-2 c =
    let h = c.requires in
    omega (
      arith,
      c.field_length.ensures h.0 h.1 h.2,
      c.field_length-2.ensures h.0 h.1 h.2,
      c.field_length-3.ensures h.0 h.1 h.2,
      length_entry h.0,
      text_most h.0 h.1,
    )

pub returns : goal.returns
returns c =
    λ e w form. omega (arith, c.field_length.ensures e w form, c.field_length-2.ensures e w form, c.field_length-3.ensures e w form, length_entry e)
