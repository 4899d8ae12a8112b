use Prim.Native.Nat.{◌-◌, ◌/◌, ◌≤◌}
use mathlib.Core.Path.{sym, ◌∙◌}
use native.Mathlib.Omega.{arith}
use lib.ListN.{length}
use borrow.Author.Rules.{rules}
use Rattle.book.specs.Notes.{after}
use Rattle.book_replay.specs.Judging.{Reached}
use Rattle.book_replay.proofs.TurnLaws.{block_within, next_within, used_low, reached_none, number_small, gone_there, turn_gone, turn_changed, turn_new, turn_full, judged_whole, judged_bad, judged_full}
use Rattle.book_replay.proofs.judge.judge.Goals as goal

pub loop-i-init : goal.loop-i-init
loop-i-init c = (omega arith, reached_none _ _ c.requires)

pub look-turn-requires : goal.look-turn-requires
look-turn-requires c =
    let book = c.args.book.now in
    let l = c.loop-i in
    let more = block_within _ _ c.loop-i-test.true in
    (more, used_low book l.i l.numbers l.used l.invariant.1 more, (after l.invariant.1.notes, l.invariant.1.kept))

pub shape_of-numbers-then-turn-ne0 : goal.shape_of-numbers-then-turn-ne0
shape_of-numbers-then-turn-ne0 c = c.loop-i.invariant.1.size ∙ sym c.requires

pub returns-then-turn-ne0 : goal.returns-then-turn-ne0
returns-then-turn-ne0 c =
    let book = c.args.book.now in
    let l = c.loop-i in
    let more = block_within _ _ c.loop-i-test.true in
    let turn = c.look-turn in
    let seen = turn.ensures (after l.invariant.1.notes) l.invariant.1.kept in
    judged_bad book l.i l.numbers l.used l.invariant.1 l.invariant.0 turn.result.fault c.if-turn-ne0.true (seen.wrong c.if-turn-ne0.true)

pub take_out-requires : goal.take_out-requires
take_out-requires c =
    let book = c.args.book.now in
    let l = c.loop-i in
    let more = block_within _ _ c.loop-i-test.true in
    let turn = c.look-turn in
    let seen = turn.ensures (after l.invariant.1.notes) l.invariant.1.kept in
    (gone_there book l.i l.numbers l.used l.invariant.1 more turn.result seen c.if-turn-ne0.false c.if-turn-eq-GONE.true, used_low book l.i l.numbers l.used l.invariant.1 more)

pub overflow_sub-used : goal.overflow_sub-used
overflow_sub-used c =
    let book = c.args.book.now in
    let l = c.loop-i in
    let more = block_within _ _ c.loop-i-test.true in
    let turn = c.look-turn in
    let seen = turn.ensures (after l.invariant.1.notes) l.invariant.1.kept in
    let there = gone_there book l.i l.numbers l.used l.invariant.1 more turn.result seen c.if-turn-ne0.false c.if-turn-eq-GONE.true in
    omega (arith, there)

pub loop-i-preserved-then-turn-eq-GONE : goal.loop-i-preserved-then-turn-eq-GONE
loop-i-preserved-then-turn-eq-GONE c =
    let book = c.args.book.now in
    let l = c.loop-i in
    let more = block_within _ _ c.loop-i-test.true in
    let turn = c.look-turn in
    let seen = turn.ensures (after l.invariant.1.notes) l.invariant.1.kept in
    (next_within _ _ c.loop-i-test.true, turn_gone book l.i l.numbers l.used l.invariant.1 more turn.result seen c.if-turn-ne0.false c.if-turn-eq-GONE.true c.take_out.new.numbers (search rules) c.take_out.ensures)

pub overflow_cast-numbers : goal.overflow_cast-numbers
overflow_cast-numbers c =
    let book = c.args.book.now in
    let l = c.loop-i in
    let more = block_within _ _ c.loop-i-test.true in
    let turn = c.look-turn in
    let seen = turn.ensures (after l.invariant.1.notes) l.invariant.1.kept in
    let small = number_small book l.i l.numbers l.used l.invariant.1 more turn.result seen c.if-turn-ne0.false in
    omega (arith, small)

pub loop-i-preserved-then-at-used : goal.loop-i-preserved-then-at-used
loop-i-preserved-then-at-used c =
    let book = c.args.book.now in
    let l = c.loop-i in
    let more = block_within _ _ c.loop-i-test.true in
    let turn = c.look-turn in
    let seen = turn.ensures (after l.invariant.1.notes) l.invariant.1.kept in
    (next_within _ _ c.loop-i-test.true, turn_changed book l.i l.numbers l.used l.invariant.1 more turn.result seen c.if-turn-ne0.false c.if-turn-eq-GONE.false c.if-at-used.true)

pub overflow_cast-numbers-then-used-lt-SLOTS : goal.overflow_cast-numbers-then-used-lt-SLOTS
overflow_cast-numbers-then-used-lt-SLOTS c =
    let book = c.args.book.now in
    let l = c.loop-i in
    let more = block_within _ _ c.loop-i-test.true in
    let turn = c.look-turn in
    let seen = turn.ensures (after l.invariant.1.notes) l.invariant.1.kept in
    let small = number_small book l.i l.numbers l.used l.invariant.1 more turn.result seen c.if-turn-ne0.false in
    omega (arith, small)

pub loop-i-preserved : goal.loop-i-preserved
loop-i-preserved c =
    let book = c.args.book.now in
    let l = c.loop-i in
    let more = block_within _ _ c.loop-i-test.true in
    let turn = c.look-turn in
    let seen = turn.ensures (after l.invariant.1.notes) l.invariant.1.kept in
    (next_within _ _ c.loop-i-test.true, turn_new book l.i l.numbers l.used l.invariant.1 more turn.result seen c.if-turn-ne0.false c.if-turn-eq-GONE.false c.if-at-used.false c.if-used-lt-SLOTS.true)

pub shape_of-numbers-else-used-lt-SLOTS : goal.shape_of-numbers-else-used-lt-SLOTS
shape_of-numbers-else-used-lt-SLOTS c = c.loop-i.invariant.1.size ∙ sym c.requires

pub returns-else-used-lt-SLOTS : goal.returns-else-used-lt-SLOTS
returns-else-used-lt-SLOTS c =
    let book = c.args.book.now in
    let l = c.loop-i in
    let more = block_within _ _ c.loop-i-test.true in
    let turn = c.look-turn in
    let seen = turn.ensures (after l.invariant.1.notes) l.invariant.1.kept in
    judged_full book l.i l.numbers l.used l.invariant.1 l.invariant.0 (turn_full book l.i l.numbers l.used l.invariant.1 more turn.result seen c.if-turn-ne0.false c.if-turn-eq-GONE.false c.if-at-used.false c.if-used-lt-SLOTS.false)

pub shape_of-numbers : goal.shape_of-numbers
shape_of-numbers c = c.loop-i.invariant.1.size ∙ sym c.requires

pub returns : goal.returns
returns c =
    let l = c.loop-i in
    judged_whole c.args.book.now l.i l.numbers l.used l.invariant.1 l.invariant.0 c.loop-i-test.false
