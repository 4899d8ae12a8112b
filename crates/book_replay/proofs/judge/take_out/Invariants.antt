use Prim.Native.Nat.{◌-◌}
use borrow.Author.Rules.{rules}
use Rattle.book_replay.proofs.MovedLaws.{Moved, moved_none, moved_more, moved_all}
use Rattle.book_replay.proofs.judge.take_out.Given as goal

abbrev pub invariant-loop-j : goal.invariant-loop-j
invariant-loop-j l = Moved l.initial.numbers l.at l.used l.numbers l.j

abbrev pub decreases-loop-j : goal.decreases-loop-j
decreases-loop-j l = l.used - l.j
