use mathlib.Core.List.{[], ◌∷◌}
use Rattle.entry.proofs.HeadLaws.{other_length, five_letters}
use borrow.Author.Rules.{rules}
use Rattle.entry.proofs.head.is_dhcid.Goals as goal

pub returns-then-word-ne5 : goal.returns-then-word-ne5
returns-then-word-ne5 c = other_length c.args.word.now (100 ∷ 104 ∷ 99 ∷ 105 ∷ 100 ∷ []) c.if-word-ne5.true

pub returns : goal.returns
returns c = five_letters c.args.word.now _ _ _ _ _ 100 104 99 105 100 c.if-word-ne5.false c.lower.ensures c.lower-2.ensures c.lower-3.ensures c.lower-4.ensures c.lower-5.ensures
