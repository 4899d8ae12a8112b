use mathlib.Core.Path.{refl}
use native.Mathlib.Omega.{arith}
use lib.ListN.{length-take}
use Rattle.book.specs.Notes.{after}
use Rattle.book.specs.Calls.{Replays}
use Rattle.book_replay.proofs.WholeLaws.{kept_names}
use Rattle.book_replay.proofs.WrittenLaws.{in_area}
use borrow.Author.Rules.{rules}
use Rattle.book_replay.proofs.replay.Goals as goal

pub returns-then-fault-ne0 : goal.returns-then-fault-ne0
returns-then-fault-ne0 c = Replays.faulty (c.judge_whole-judged.ensures.fault c.if-fault-ne0.true) c.refused.ensures refl

pub returns-then-table-lt-SIZE : goal.returns-then-table-lt-SIZE
returns-then-table-lt-SIZE c = Replays.short (c.judge_whole-judged.ensures.fine c.if-fault-ne0.false).0 (omega arith) c.refused-then-table-lt-SIZE.ensures refl

pub slice_bounds-fill-end-2 : goal.slice_bounds-fill-end-2
slice_bounds-fill-end-2 c = simp length-take (omega arith)

pub fill-requires : goal.fill-requires
fill-requires c =
    let book = c.args.book.now in
    let j = c.judge_whole-judged in
    let numbers = j.new.numbers in
    let f = j.ensures.fine c.if-fault-ne0.false in
    let k = kept_names book numbers j.result j.ensures c.if-fault-ne0.false in
    (simp length-take (omega arith), k)

pub returns : goal.returns
returns c =
    let book = c.args.book.now in
    let j = c.judge_whole-judged in
    let numbers = j.new.numbers in
    let f = j.ensures.fine c.if-fault-ne0.false in
    let k = kept_names book numbers j.result j.ensures c.if-fault-ne0.false in
    let t = after f.0.notes in
    let filled = c.fill in
    Replays.replayed f.0 (omega arith) refl
    (in_area book numbers j.result.used k t f.3 c.args.table.now filled.new.table (filled.ensures t f.3))
