use native.Mathlib.Omega.{arith}
use borrow.Author.Rules.{rules}
use Rattle.slots.specs.Form.{IsSlot}
use Rattle.table_load.proofs.WrittenLaws.{held_there, free_there, written_held, written_free}
use Rattle.table_load.proofs.write_in.Goals as goal

pub overflow_mul-i : goal.overflow_mul-i
overflow_mul-i c = omega (arith, c.requires.1)

pub put_at-requires : goal.put_at-requires
unfolding IsSlot
put_at-requires c =
    let s = c.requires.0 in
    let h = held_there _ _ _ s.table _ s.slots c.requires.5 c.if-i-used.true in
    (h.fits, (h.entry, h.well_formed, h.slot), c.requires.4)

pub overflow_mul-i-else-i-used : goal.overflow_mul-i-else-i-used
overflow_mul-i-else-i-used c = omega (arith, c.requires.1)

pub enter_at-requires : goal.enter_at-requires
enter_at-requires c =
    let s = c.requires.0 in
    let h = free_there _ _ _ s.table _ s.slots c.requires.5 c.if-i-used.false in
    (h.fits, h.slot, c.requires.3, c.requires.4)

pub returns-then-i-used : goal.returns-then-i-used
returns-then-i-used c = λ t h.
    let held = held_there _ _ _ t _ h c.requires.5 c.if-i-used.true in
    written_held _ _ _ t _ _ _ held (c.put_at.ensures held.entry held.well_formed held.slot)

pub returns-else-i-used : goal.returns-else-i-used
returns-else-i-used c = λ t h.
    let free = free_there _ _ _ t _ h c.requires.5 c.if-i-used.false in
    written_free _ _ _ t _ _ _ free c.requires.2 c.enter_at.ensures
