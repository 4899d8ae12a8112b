use mathlib.Core.Path.{ap}
use native.Mathlib.Omega.{arith}
use borrow.Author.Rules.{rules}
use borrow.Author.Tests.{not-true, not-false}
use Rattle.base.specs.declared.Answer.TheVariants.{Accepted}
use Rattle.table.specs.Calls.{Counts}
use Rattle.table.proofs.count.Goals as goal

pub returns-then-not-is_sound : goal.returns-then-not-is_sound
returns-then-not-is_sound c = Counts.not_sound (c.is_sound.ensures.if_false c.if-not-is_sound.true) c.refused.ensures

pub count-requires : goal.count-requires
count-requires c = let s = c.is_sound.ensures.if_true c.if-not-is_sound.false in (s.table, s.slots)

pub overflow_cast-result : goal.overflow_cast-result
overflow_cast-result c =
    let s = c.is_sound.ensures.if_true c.if-not-is_sound.false in
    omega (arith, c.count.ensures s.table s.slots, s.slots.room)

pub returns : goal.returns
returns c =
    let s = c.is_sound.ensures.if_true c.if-not-is_sound.false in
    Counts.counted s (ap Accepted (c.count.ensures s.table s.slots))
