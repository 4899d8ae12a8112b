use Prim.Native.Nat.{◌+◌, ◌*◌, ◌-◌, ◌≤◌}
use mathlib.Core.Path.{ap, ◌∙◌}
use lib.ListN.{length, get_or, length-take, length-drop}
use Rattle.base.specs.Bytes.{overlay}
use native.Mathlib.Omega.{arith}
use borrow.Author.Rules.{rules}
use Rattle.book_replay.proofs.WrittenLaws.{Written, slot_of, length_slot_of, piece_within, slot_cut, written_none, written_more, filled}
use Rattle.book_replay.proofs.fill.Goals as goal

pub loop-j-init : goal.loop-j-init
loop-j-init c = written_none slot_of 312 length_slot_of c.args.book.now c.args.numbers.now c.args.used c.requires.1 c.args.table.now

pub overflow_cast-at : goal.overflow_cast-at
overflow_cast-at c = omega (arith, piece_within _ _ _ c.requires.1 _ c.loop-j-test.true)

pub overflow_mul-at : goal.overflow_mul-at
overflow_mul-at c = omega (arith, piece_within _ _ _ c.requires.1 _ c.loop-j-test.true)

pub overflow_add-at : goal.overflow_add-at
overflow_add-at c = omega (arith, piece_within _ _ _ c.requires.1 _ c.loop-j-test.true)

pub overflow_add-at-in-loop-j : goal.overflow_add-at-in-loop-j
overflow_add-at-in-loop-j c = omega (arith, piece_within _ _ _ c.requires.1 _ c.loop-j-test.true)

pub slice_bounds-put-end : goal.slice_bounds-put-end
slice_bounds-put-end c = omega (arith, piece_within _ _ _ c.requires.1 _ c.loop-j-test.true)

pub put-requires : goal.put-requires
put-requires c = let w = piece_within _ _ _ c.requires.1 _ c.loop-j-test.true in let i = c.loop-j.invariant in simp (length-take, length-drop) (omega arith)

pub loop-j-preserved : goal.loop-j-preserved
loop-j-preserved c = let l = c.loop-j in
    let b = c.args.book.now in
    written_more slot_of 312 length_slot_of b c.args.numbers.now c.args.used c.requires.1 c.args.table.now l.table l.j l.invariant c.loop-j-test.true (omega arith) _
    (λ g w s. c.put.ensures ∙ ap (overlay l.table (312 * l.j)) (slot_cut (512 * get_or c.args.numbers.now l.j 0 + 5) b ∙ s))

pub put_zeros-requires : goal.put_zeros-requires
put_zeros-requires c = let l = c.loop-j in let e : 312 * c.args.used + (19968 - 312 * c.args.used) ≤ length l.table = omega arith in e

pub returns : goal.returns
returns c = λ t h.
    let l = c.loop-j in
    filled c.args.book.now c.args.numbers.now c.args.used c.requires.1 t h c.args.table.now l.table c.put_zeros.new.to l.j l.invariant c.loop-j-test.false c.requires.0 c.put_zeros.ensures
