use native.Mathlib.Omega.{arith}
use Rattle.book_replay.proofs.WholeLaws.{whole_cut, right_so_far, whole_judged, whole_bad_later, whole_full}
use borrow.Author.Rules.{rules}
use Rattle.book_replay.proofs.judge_whole.Goals as goal

pub returns-then-book-ne0 : goal.returns-then-book-ne0
returns-then-book-ne0 c = let a = c.args in whole_cut 64 a.book.now a.numbers.now c.if-book-ne0.true

pub returns-then-judged-ne-TABLE_NOT_SOUND : goal.returns-then-judged-ne-TABLE_NOT_SOUND
returns-then-judged-ne-TABLE_NOT_SOUND c =
    let book = c.args.book.now in
    let j = c.judge-judged in
    whole_judged 64 book j.new.numbers j.result j.ensures c.if-book-ne0.false c.if-judged-ne-TABLE_NOT_SOUND.true

pub judge_beyond-later-requires : goal.judge_beyond-later-requires
judge_beyond-later-requires c =
    let book = c.args.book.now in
    let j = c.judge-judged in
    (omega (arith, j.ensures.within), right_so_far 64 book j.new.numbers j.result j.ensures)

pub returns-then-later-ne0 : goal.returns-then-later-ne0
returns-then-later-ne0 c =
    let book = c.args.book.now in
    let j = c.judge-judged in
    let rest = c.judge_beyond-later in
    whole_bad_later 64 book j.new.numbers j.result j.ensures c.if-book-ne0.false c.if-judged-ne-TABLE_NOT_SOUND.false rest.result rest.ensures c.if-later-ne0.true

pub returns-else-later-ne0 : goal.returns-else-later-ne0
returns-else-later-ne0 c =
    let book = c.args.book.now in
    let j = c.judge-judged in
    let rest = c.judge_beyond-later in
    whole_full 64 book j.new.numbers j.result j.ensures c.if-book-ne0.false c.if-judged-ne-TABLE_NOT_SOUND.false rest.result rest.ensures c.if-later-ne0.false
