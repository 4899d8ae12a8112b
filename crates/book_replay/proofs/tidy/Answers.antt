use mathlib.Core.Path.{refl, sym, ap}
use native.Mathlib.Omega.{arith}
use Rattle.base.specs.declared.Answer.TheVariants.{Accepted}
use Rattle.book.specs.Notes.{after}
use Rattle.book.specs.Calls.{Tidies}
use Rattle.book_replay.proofs.WholeLaws.{kept_names}
use Rattle.book_replay.proofs.WrittenLaws.{tidied_long}
use borrow.Author.Rules.{rules}
use Rattle.book_replay.proofs.tidy.Goals as goal

pub returns-then-fault-ne0 : goal.returns-then-fault-ne0
returns-then-fault-ne0 c = Tidies.faulty (c.judge_whole-judged.ensures.fault c.if-fault-ne0.true) c.refused.ensures refl

pub overflow_mul-size : goal.overflow_mul-size
overflow_mul-size c = omega (arith, (c.judge_whole-judged.ensures.fine c.if-fault-ne0.false).1)

pub returns-then-out-size : goal.returns-then-out-size
returns-then-out-size c =
    let book = c.args.book.now in
    let j = c.judge_whole-judged in
    let numbers = j.new.numbers in
    let f = j.ensures.fine c.if-fault-ne0.false in
    let k = kept_names book numbers j.result j.ensures c.if-fault-ne0.false in
    Tidies.short f.0 (omega (arith, tidied_long book numbers j.result.used k (after f.0.notes) f.3)) c.refused-then-out-size.ensures refl

pub put_blocks-requires : goal.put_blocks-requires
put_blocks-requires c =
    let book = c.args.book.now in
    let j = c.judge_whole-judged in
    let numbers = j.new.numbers in
    let f = j.ensures.fine c.if-fault-ne0.false in
    let k = kept_names book numbers j.result j.ensures c.if-fault-ne0.false in
    (omega arith, k)

pub overflow_cast-result : goal.overflow_cast-result
overflow_cast-result c = omega (arith, (c.judge_whole-judged.ensures.fine c.if-fault-ne0.false).1)

pub returns : goal.returns
returns c =
    let book = c.args.book.now in
    let j = c.judge_whole-judged in
    let numbers = j.new.numbers in
    let f = j.ensures.fine c.if-fault-ne0.false in
    let k = kept_names book numbers j.result j.ensures c.if-fault-ne0.false in
    let size = tidied_long book numbers j.result.used k (after f.0.notes) f.3 in
    Tidies.written f.0 (omega (arith, size)) (ap Accepted (sym size)) (c.put_blocks.ensures (after f.0.notes) f.3)
