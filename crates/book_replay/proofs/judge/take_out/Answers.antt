use Prim.Native.Nat.{◌-◌}
use borrow.Author.Rules.{rules}
use Rattle.book_replay.proofs.MovedLaws.{Moved, moved_none, moved_more, moved_all}
use Rattle.book_replay.proofs.judge.take_out.Goals as goal

pub loop-j-init : goal.loop-j-init
loop-j-init c = moved_none _ _ _ c.requires.0

pub loop-j-preserved : goal.loop-j-preserved
loop-j-preserved c = moved_more _ _ _ _ _ c.requires.1 c.loop-j.invariant c.loop-j-test.true

pub shape_of-numbers : goal.shape_of-numbers
shape_of-numbers c = c.loop-j.invariant.long

pub returns : goal.returns
returns c = moved_all _ _ _ _ c.loop-j.j c.loop-j.invariant c.loop-j-test.false
