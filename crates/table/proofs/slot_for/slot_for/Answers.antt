use native.Mathlib.Omega.{arith}
use Rattle.name.specs.Name.{canonical}
use Rattle.slots.proofs.TableLaws.{length_table}
use Rattle.slots.specs.Sizes.{most_names}
use Rattle.table.proofs.SlotForLaws.{position_in, slot_full, slot_free, slot_held}
use Rattle.table.proofs.slot_for.slot_for.Goals as goal

pub find-i-requires : goal.find-i-requires
find-i-requires c = let s = c.requires in (s.table, s.slots)

pub returns-then-i-eq-SLOTS : goal.returns-then-i-eq-SLOTS
returns-then-i-eq-SLOTS c = λ t h. slot_full most_names _ t _ h _ (c.find-i.ensures t h) c.if-i-eq-SLOTS.true

pub overflow_mul-at : goal.overflow_mul-at
overflow_mul-at c =
    let s = c.requires in
    omega (arith, c.find-i.ensures s.table s.slots, position_in (canonical c.args.name.now) s.table, s.slots.room)

pub bounds-table-at : goal.bounds-table-at
bounds-table-at c =
    let s = c.requires in
    omega (arith, c.find-i.ensures s.table s.slots, position_in (canonical c.args.name.now) s.table, s.slots.room, length_table most_names s.table _ s.slots, c.if-i-eq-SLOTS.false)

pub returns-then-table-at-eq0 : goal.returns-then-table-at-eq0
returns-then-table-at-eq0 c = λ t h. slot_free most_names _ t _ h _ (c.find-i.ensures t h) c.if-i-eq-SLOTS.false c.if-table-at-eq0.true

pub returns : goal.returns
returns c = λ t h. slot_held most_names _ t _ h _ (c.find-i.ensures t h) c.if-i-eq-SLOTS.false c.if-table-at-eq0.false
