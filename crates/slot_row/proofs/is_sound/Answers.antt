use Rattle.std.proofs.Common.{◌∙◌, sym}
use Rattle.base.proofs.Tests.{no_by}
use Rattle.slots.proofs.TableLaws.{length_table}
use Rattle.slots.specs.Sizes.{most_names}
use Rattle.slot_row.proofs.is_sound.Goals.{then-table-eq-SIZE, else-table-eq-SIZE}
use Rattle.slot_row.proofs.is_sound.Goals as goal

pub returns-else-are_slots : goal.returns-else-are_slots
returns-else-are_slots c =
    let no = c.if-are_slots.false in
    rw no (no_by (λ s.
    elim c.if-table-eq-SIZE.branch [
      | then-table-eq-SIZE w ↦ w.are_slots.ensures.if_false (sym w.value-is ∙ no) (s.table, s.slots)
      | else-table-eq-SIZE w ↦ w.if-table-eq-SIZE.false (length_table most_names s.table _ s.slots)
    ]))
