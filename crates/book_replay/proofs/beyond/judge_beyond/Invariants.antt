use Prim.Native.Nat.{◌-◌, ◌/◌, ◌≤◌}
use native.Mathlib.Omega.{arith}
use lib.ListN.{length}
use borrow.Author.Rules.{rules}
use Rattle.book_replay.specs.Judging.{RightBlocks}
use Rattle.book_replay.proofs.TurnLaws.{block_within}
use Rattle.book_replay.proofs.SoughtLaws.{judged_rest_bad, judged_rest_next, judged_rest_whole}
use Rattle.book_replay.proofs.beyond.judge_beyond.Given as goal

abbrev pub invariant-loop-i : goal.invariant-loop-i
invariant-loop-i l = (l.i ≤ length l.book / 512) × RightBlocks l.book l.i

abbrev pub decreases-loop-i : goal.decreases-loop-i
decreases-loop-i l = l.count - l.i
