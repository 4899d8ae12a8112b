use mathlib.Core.List.{[], ◌∷◌}
use Rattle.entry.proofs.HeadLaws.{other_length, two_letters}
use borrow.Author.Rules.{rules}
use Rattle.entry.proofs.head.is_in.Goals as goal

pub returns-then-word-ne2 : goal.returns-then-word-ne2
returns-then-word-ne2 c = other_length c.args.word.now (105 ∷ 110 ∷ []) c.if-word-ne2.true

pub returns : goal.returns
returns c = two_letters c.args.word.now _ _ 105 110 c.if-word-ne2.false c.lower.ensures c.lower-2.ensures
