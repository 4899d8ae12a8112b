use mathlib.Core.List.{[], ◌∷◌}
use Rattle.entry.proofs.HeadLaws.{other_length, one_letter}
use borrow.Author.Rules.{rules}
use Rattle.entry.proofs.head.is_a.Goals as goal

pub returns-then-word-ne1 : goal.returns-then-word-ne1
returns-then-word-ne1 c = other_length c.args.word.now (97 ∷ []) c.if-word-ne1.true

pub returns : goal.returns
returns c = one_letter c.args.word.now _ 97 c.if-word-ne1.false c.lower.ensures
