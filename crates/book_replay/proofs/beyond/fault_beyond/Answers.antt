use Prim.Native.Nat.{◌+◌, ◌*◌, ◌-◌}
use lib.ListN.{take, drop}
use Rattle.book.specs.Notes.{after}
use Rattle.book_replay.proofs.SeenLaws.{block_cut, block_long}
use Rattle.book_replay.proofs.SoughtLaws.{fault_as, beyond_fault, beyond_stands, beyond_gone, beyond_missing}
use borrow.Author.Rules.{rules}
use Rattle.book_replay.proofs.beyond.fault_beyond.Goals as goal

pub returns-then-fault-ne0 : goal.returns-then-fault-ne0
returns-then-fault-ne0 c = λ cs right. fault_as (block_cut c.args.book.now c.args.i) (beyond_fault c.args.i (after cs) (take (512 * c.args.i + 512 - 512 * c.args.i) (drop (512 * c.args.i) c.args.book.now)) (block_long c.args.book.now c.args.i c.requires.0) c.fault-fault.result c.fault-fault.ensures c.if-fault-ne0.true)

pub returns-then-block-ne-GONE : goal.returns-then-block-ne-GONE
returns-then-block-ne-GONE c = λ cs right. fault_as (block_cut c.args.book.now c.args.i) (beyond_stands c.args.i (after cs) (take (512 * c.args.i + 512 - 512 * c.args.i) (drop (512 * c.args.i) c.args.book.now)) (block_long c.args.book.now c.args.i c.requires.0) c.fault-fault.result c.fault-fault.ensures c.if-fault-ne0.false c.if-block-ne-GONE.true)

pub returns-then-stands_before : goal.returns-then-stands_before
returns-then-stands_before c = λ cs right. fault_as (block_cut c.args.book.now c.args.i) (beyond_gone c.args.i (after cs) (take (512 * c.args.i + 512 - 512 * c.args.i) (drop (512 * c.args.i) c.args.book.now)) (block_long c.args.book.now c.args.i c.requires.0) c.fault-fault.result c.fault-fault.ensures c.if-fault-ne0.false c.stands_before.result (λ m own. c.stands_before.ensures cs right m own) c.if-block-ne-GONE.false c.if-stands_before.true)

pub returns : goal.returns
returns c = λ cs right. fault_as (block_cut c.args.book.now c.args.i) (beyond_missing c.args.i (after cs) (take (512 * c.args.i + 512 - 512 * c.args.i) (drop (512 * c.args.i) c.args.book.now)) (block_long c.args.book.now c.args.i c.requires.0) c.fault-fault.result c.fault-fault.ensures c.if-fault-ne0.false c.stands_before.result (λ m own. c.stands_before.ensures cs right m own) c.if-block-ne-GONE.false c.if-stands_before.false)
