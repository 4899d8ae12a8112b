use Prim.Native.Nat.{◌-◌, ◌/◌, ◌≤◌}
use mathlib.Core.Path.{sym, ◌∙◌}
use native.Mathlib.Omega.{arith}
use lib.ListN.{length}
use borrow.Author.Rules.{rules}
use Rattle.book.specs.Notes.{after}
use Rattle.book_replay.specs.Judging.{Reached}
use Rattle.book_replay.proofs.TurnLaws.{block_within, next_within, used_low, reached_none, number_small, gone_there, turn_gone, turn_changed, turn_new, turn_full, judged_whole, judged_bad, judged_full}
use Rattle.book_replay.proofs.judge.judge.Given as goal

abbrev pub invariant-loop-i : goal.invariant-loop-i
invariant-loop-i l = (l.i ≤ length l.book / 512) × Reached 64 l.book l.i l.numbers l.used

abbrev pub decreases-loop-i : goal.decreases-loop-i
decreases-loop-i l = l.count - l.i
