use mathlib.Core.Path.{refl}
use native.Mathlib.Omega.{arith}
use Rattle.grammar.specs.Content.{typed}
use Rattle.entry.proofs.NextLaws.{word_is, no_word}
use Rattle.entry.proofs.HeadLaws.{head_none, head_word}
use borrow.Author.Rules.{rules}
use Rattle.entry.proofs.head.next_type.Goals as goal

pub slice_bounds-type_of-count : goal.slice_bounds-type_of-count
slice_bounds-type_of-count c = let h = word_is c.args.text.now c.args.at c.args.inside c.next_word.result c.next_word.ensures c.in-Word.is in omega (arith, h.some, h.within)

pub slice_bounds-type_of-start : goal.slice_bounds-type_of-start
slice_bounds-type_of-start c = let h = word_is c.args.text.now c.args.at c.args.inside c.next_word.result c.next_word.ensures c.in-Word.is in omega (arith, h.some, h.within)

pub slice_bounds-type_of-end : goal.slice_bounds-type_of-end
slice_bounds-type_of-end c = let h = word_is c.args.text.now c.args.at c.args.inside c.next_word.result c.next_word.ensures c.in-Word.is in omega (arith, h.some, h.within)

pub returns-in-Word : goal.returns-in-Word
returns-in-Word c =
    let a = c.args in
    let n = c.next_word in
    let h = word_is a.text.now a.at a.inside n.result n.ensures c.in-Word.is in
    head_word a.text.now a.at a.inside h typed c.type_of.result refl c.type_of.ensures

pub returns-in_default : goal.returns-in_default
returns-in_default c =
    let a = c.args in
    let n = c.next_word in
    head_none a.text.now a.at a.inside typed refl c.requires (no_word a.text.now a.at a.inside n.result c.in_default.not-Word n.ensures)
