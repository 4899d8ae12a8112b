use Prim.Native.Nat.{◌-◌, ◌/◌, ◌≤◌}
use native.Mathlib.Omega.{arith}
use lib.ListN.{length}
use borrow.Author.Rules.{rules}
use Rattle.book_replay.specs.Judging.{RightBlocks}
use Rattle.book_replay.proofs.TurnLaws.{block_within}
use Rattle.book_replay.proofs.SoughtLaws.{judged_rest_bad, judged_rest_next, judged_rest_whole}
use Rattle.book_replay.proofs.beyond.judge_beyond.Goals as goal

pub loop-i-init : goal.loop-i-init
loop-i-init c = (omega (arith, c.requires.0), c.requires.1)

pub fault_beyond-fault-requires : goal.fault_beyond-fault-requires
fault_beyond-fault-requires c = (block_within _ _ c.loop-i-test.true, c.loop-i.invariant.1)

pub returns-then-fault-ne0 : goal.returns-then-fault-ne0
returns-then-fault-ne0 c = judged_rest_bad c.args.book.now c.loop-i.i c.loop-i-test.true c.loop-i.invariant.1 c.fault_beyond-fault.result c.fault_beyond-fault.ensures c.if-fault-ne0.true

pub loop-i-preserved : goal.loop-i-preserved
loop-i-preserved c = judged_rest_next c.args.book.now c.loop-i.i c.loop-i-test.true c.loop-i.invariant.1 c.fault_beyond-fault.result c.fault_beyond-fault.ensures c.if-fault-ne0.false

pub returns : goal.returns
returns c = judged_rest_whole c.args.book.now c.loop-i.i c.loop-i.invariant.0 c.loop-i-test.false c.loop-i.invariant.1
