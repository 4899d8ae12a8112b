use mathlib.Core.List.{[], ◌∷◌}
use Rattle.entry.proofs.HeadLaws.{other_length, four_letters}
use borrow.Author.Rules.{rules}
use Rattle.entry.proofs.head.is_aaaa.Goals as goal

pub returns-then-word-ne4 : goal.returns-then-word-ne4
returns-then-word-ne4 c = other_length c.args.word.now (97 ∷ 97 ∷ 97 ∷ 97 ∷ []) c.if-word-ne4.true

pub returns : goal.returns
returns c = four_letters c.args.word.now _ _ _ _ 97 97 97 97 c.if-word-ne4.false c.lower.ensures c.lower-2.ensures c.lower-3.ensures c.lower-4.ensures
