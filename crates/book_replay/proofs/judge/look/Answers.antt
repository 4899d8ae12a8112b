use Prim.Native.Nat.{◌+◌, ◌*◌, ◌-◌}
use lib.ListN.{take, drop}
use Rattle.book_replay.proofs.SeenLaws.{block_cut, block_long, look_as, seen_fault, seen_stands, seen_missing, seen_gone}
use borrow.Author.Rules.{rules}
use Rattle.book_replay.proofs.judge.look.Goals as goal

pub returns-then-fault-ne0 : goal.returns-then-fault-ne0
returns-then-fault-ne0 c = λ t k. look_as (block_cut c.args.book.now c.args.i) (seen_fault c.args.i t (take (512 * c.args.i + 512 - 512 * c.args.i) (drop (512 * c.args.i) c.args.book.now)) (block_long c.args.book.now c.args.i c.requires.0) c.fault-fault.result c.args.used c.fault-fault.ensures c.if-fault-ne0.true)

pub returns-then-kind-ne-GONE : goal.returns-then-kind-ne-GONE
returns-then-kind-ne-GONE c = λ t k. look_as (block_cut c.args.book.now c.args.i) (seen_stands c.args.i t (take (512 * c.args.i + 512 - 512 * c.args.i) (drop (512 * c.args.i) c.args.book.now)) (block_long c.args.book.now c.args.i c.requires.0) c.fault-fault.result c.fault-fault.ensures c.if-fault-ne0.false c.index_of-index.result (λ m own. c.index_of-index.ensures t k m own) c.if-kind-ne-GONE.true)

pub returns-then-index-used : goal.returns-then-index-used
returns-then-index-used c = λ t k. look_as (block_cut c.args.book.now c.args.i) (seen_missing c.args.i t (take (512 * c.args.i + 512 - 512 * c.args.i) (drop (512 * c.args.i) c.args.book.now)) (block_long c.args.book.now c.args.i c.requires.0) c.fault-fault.result c.fault-fault.ensures c.if-fault-ne0.false c.index_of-index.result (λ m own. c.index_of-index.ensures t k m own) c.args.book.now c.args.numbers.now c.args.used c.requires.1 k c.if-kind-ne-GONE.false c.if-index-used.true)

pub returns : goal.returns
returns c = λ t k. look_as (block_cut c.args.book.now c.args.i) (seen_gone c.args.i t (take (512 * c.args.i + 512 - 512 * c.args.i) (drop (512 * c.args.i) c.args.book.now)) (block_long c.args.book.now c.args.i c.requires.0) c.fault-fault.result c.fault-fault.ensures c.if-fault-ne0.false c.index_of-index.result (λ m own. c.index_of-index.ensures t k m own) c.args.book.now c.args.numbers.now c.args.used c.requires.1 k c.if-kind-ne-GONE.false c.if-index-used.false)
