use native.Mathlib.Omega.{arith}
use Rattle.book_replay.proofs.SoundLaws.{judged_sound, judged_sound_cut}
use borrow.Author.Rules.{rules}
use Rattle.book_replay.proofs.sound_blocks.Goals as goal

pub returns-then-good-gt-MOST : goal.returns-then-good-gt-MOST
returns-then-good-gt-MOST c =
    let book = c.args.book.now in
    let j = c.judge-judged in
    judged_sound_cut 64 book j.new.numbers j.result j.ensures 4294967295 (omega arith) (omega arith) (λ m within small. omega arith)

pub returns : goal.returns
returns c =
    let book = c.args.book.now in
    let j = c.judge-judged in
    judged_sound 64 book j.new.numbers j.result j.ensures (omega arith)
