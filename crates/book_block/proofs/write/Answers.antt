use mathlib.Core.Path.{◌≡◌, refl, ap}
use mathlib.Core.Logic.{inl, inr}
use native.Mathlib.Omega.{arith}
use lib.ListN.{length, length-take}
use lib.Seq.{length-take-le}
use borrow.Author.Rules.{rules}
use borrow.Author.Tests.{not-true, not-false}
use Rattle.name.specs.Name.{Proper}
use Rattle.slots.specs.Form.{Sound}
use Rattle.slots.specs.Sizes.{most_names}
use Rattle.book.specs.Calls.{BlockWritten}
use Rattle.base.proofs.Bytes.{written_front}
use Rattle.book_block.proofs.write.Goals as goal

pub returns-then-not-is_sound : goal.returns-then-not-is_sound
returns-then-not-is_sound c =
    BlockWritten.faulty (inl (c.is_sound.ensures.if_false c.if-not-is_sound.true, refl)) c.refused.ensures refl

pub returns-then-not-is_proper : goal.returns-then-not-is_proper
returns-then-not-is_proper c =
    let s = c.is_sound.ensures.if_true c.if-not-is_sound.false in
    BlockWritten.faulty (inr (s, inl (c.is_proper.ensures.if_false c.if-not-is_proper.true, refl))) c.refused-then-not-is_proper.ensures refl

pub returns-then-out-lt-SIZE : goal.returns-then-out-lt-SIZE
returns-then-out-lt-SIZE c =
    let sound = c.is_sound.ensures.if_true c.if-not-is_sound.false in
    let proper = c.is_proper.ensures.if_true c.if-not-is_proper.false in
    BlockWritten.faulty (inr (sound, inr (proper, inl (λ long. omega arith, refl)))) c.refused-then-out-lt-SIZE.ensures refl

pub slice_bounds-put_name-end-2 : goal.slice_bounds-put_name-end-2
slice_bounds-put_name-end-2 c = simp length-take (omega arith)

pub put_name-requires : goal.put_name-requires
put_name-requires c = (simp length-take (omega arith), c.is_sound.ensures.if_true c.if-not-is_sound.false, c.is_proper.ensures.if_true c.if-not-is_proper.false)

pub returns : goal.returns
returns c =
    let sound = c.is_sound.ensures.if_true c.if-not-is_sound.false in
    let proper = c.is_proper.ensures.if_true c.if-not-is_proper.false in
    let out = c.args.out.now in
    let size : length c.put_name.new.block ≡ 512 = omega (arith, length-take-le 512 out (omega arith)) in
    let block = c.put_name.ensures sound.table sound.slots in
    BlockWritten.written (sound, (proper, (omega arith, tt))) sound refl (written_front 512 out _ _ (omega (arith, size, ap length block)) block)
