use Prim.Native.Nat.{◌+◌, ◌*◌, ◌-◌, ◌≤◌}
use mathlib.Core.Path.{◌∙◌}
use lib.ListN.{length, get_or, length-take, length-drop}
use native.Mathlib.Omega.{arith}
use borrow.Author.Rules.{rules}
use Rattle.book_replay.proofs.WrittenLaws.{Written, block_of, length_block_of, piece_within, slot_cut, slot_kept, block_put, written_none, written_more, tidied_all}
use Rattle.book_replay.proofs.put_blocks.Goals as goal

pub loop-j-init : goal.loop-j-init
loop-j-init c = written_none block_of 512 length_block_of c.args.book.now c.args.numbers.now c.args.used c.requires.1 c.args.out.now

pub overflow_cast-at : goal.overflow_cast-at
overflow_cast-at c = omega (arith, piece_within _ _ _ c.requires.1 _ c.loop-j-test.true)

pub overflow_mul-at : goal.overflow_mul-at
overflow_mul-at c = omega (arith, piece_within _ _ _ c.requires.1 _ c.loop-j-test.true)

pub overflow_add-at : goal.overflow_add-at
overflow_add-at c = omega (arith, piece_within _ _ _ c.requires.1 _ c.loop-j-test.true)

pub overflow_add-at-in-loop-j : goal.overflow_add-at-in-loop-j
overflow_add-at-in-loop-j c = omega (arith, piece_within _ _ _ c.requires.1 _ c.loop-j-test.true)

pub slice_bounds-put_stands-end-in-loop-j : goal.slice_bounds-put_stands-end-in-loop-j
slice_bounds-put_stands-end-in-loop-j c = omega (arith, piece_within _ _ _ c.requires.1 _ c.loop-j-test.true)

pub put_stands-requires : goal.put_stands-requires
put_stands-requires c = let l = c.loop-j in
    (simp (length-take, length-drop) (omega arith), slot_kept c.args.book.now c.args.numbers.now c.args.used c.requires.1 l.j c.loop-j-test.true)

pub loop-j-preserved : goal.loop-j-preserved
loop-j-preserved c = let l = c.loop-j in
    let b = c.args.book.now in
    let y = c.put_stands in
    written_more block_of 512 length_block_of b c.args.numbers.now c.args.used c.requires.1 c.args.out.now l.out l.j l.invariant c.loop-j-test.true (omega arith) _
    (λ g w s. block_put l.j g w l.out y.new.block (y.ensures g w (slot_cut (512 * get_or c.args.numbers.now l.j 0 + 5) b ∙ s)))

pub returns : goal.returns
returns c = λ t h.
    let l = c.loop-j in
    tidied_all c.args.book.now c.args.numbers.now c.args.used c.requires.1 t h c.args.out.now l.out l.j l.invariant c.loop-j-test.false
