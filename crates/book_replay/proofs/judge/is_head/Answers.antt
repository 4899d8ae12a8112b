use Prim.Native.Nat.{◌+◌, ◌*◌}
use mathlib.Core.Path.{◌∙◌}
use Rattle.book_replay.proofs.HeadLaws.{part_whole}
use borrow.Author.Rules.{rules}
use Rattle.book_replay.proofs.judge.is_head.Goals as goal

pub returns : goal.returns
returns c = c.same.ensures ∙ part_whole (512 * c.args.p + 5) c.args.book.now c.args.head.now
