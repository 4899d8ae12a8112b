use mathlib.Core.Path.{ap, refl}
use native.Mathlib.Omega.{arith}
use borrow.Author.Tests.{not-true, not-false}
use Rattle.base.specs.declared.Answer.TheVariants.{Accepted}
use Rattle.records.specs.Calls.{Writes}
use Rattle.table_write.proofs.WriteLaws.{listing_short}
use borrow.Author.Rules.{rules}
use Rattle.table_write.proofs.write.Goals as goal

pub returns-then-not-is_sound : goal.returns-then-not-is_sound
returns-then-not-is_sound c =
    Writes.not_sound (c.is_sound.ensures.if_false c.if-not-is_sound.true) c.refused.ensures refl

pub listing_length-n-requires : goal.listing_length-n-requires
listing_length-n-requires c =
    let s = c.is_sound.ensures.if_true c.if-not-is_sound.false in
    (s.table, s.slots)

pub returns-then-out-n : goal.returns-then-out-n
returns-then-out-n c =
    let s = c.is_sound.ensures.if_true c.if-not-is_sound.false in
    Writes.short s (omega (arith, c.listing_length-n.ensures s.table s.slots)) c.refused-then-out-n.ensures refl

pub put_listing-requires : goal.put_listing-requires
put_listing-requires c =
    let s = c.is_sound.ensures.if_true c.if-not-is_sound.false in
    record { table = s.table; slots = s.slots; room = omega (arith, c.listing_length-n.ensures s.table s.slots) }

pub overflow_cast-result : goal.overflow_cast-result
overflow_cast-result c =
    let s = c.is_sound.ensures.if_true c.if-not-is_sound.false in
    omega (arith, c.listing_length-n.ensures s.table s.slots, listing_short s.slots)

pub returns : goal.returns
returns c =
    let s = c.is_sound.ensures.if_true c.if-not-is_sound.false in
    let n = c.listing_length-n.ensures s.table s.slots in
    Writes.written s (omega arith) (ap Accepted n) (c.put_listing.ensures s.table s.slots)
