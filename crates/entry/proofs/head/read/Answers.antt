use native.Mathlib.Omega.{arith}
use Rattle.grammar.specs.Content.{head_of}
use Rattle.entry.proofs.NextLaws.{word_is, no_word}
use Rattle.entry.proofs.HeadLaws.{none_headed, head_none, head_no_class, head_after_class}
use borrow.Author.Rules.{rules}
use Rattle.entry.proofs.head.read.Goals as goal

pub slice_bounds-word-count : goal.slice_bounds-word-count
slice_bounds-word-count c =
    let a = c.args in
    let n = c.next_word in
    let h = word_is a.text.now a.at a.inside n.result n.ensures c.in-Word.is in
    omega (arith, h.some, h.within)

pub slice_bounds-word-start : goal.slice_bounds-word-start
slice_bounds-word-start c =
    let a = c.args in
    let n = c.next_word in
    let h = word_is a.text.now a.at a.inside n.result n.ensures c.in-Word.is in
    omega (arith, h.some, h.within)

pub slice_bounds-word-end : goal.slice_bounds-word-end
slice_bounds-word-end c =
    let a = c.args in
    let n = c.next_word in
    let h = word_is a.text.now a.at a.inside n.result n.ensures c.in-Word.is in
    omega (arith, h.some, h.within)

pub next_type-requires : goal.next_type-requires
next_type-requires c =
    let a = c.args in
    let n = c.next_word in
    let h = word_is a.text.now a.at a.inside n.result n.ensures c.in-Word.is in
    h.within

pub returns-then-is_in : goal.returns-then-is_in
returns-then-is_in c =
    let a = c.args in
    let n = c.next_word in
    let h = word_is a.text.now a.at a.inside n.result n.ensures c.in-Word.is in
    head_after_class a.text.now a.at a.inside h c.next_type.result (c.is_in.ensures.if_true c.if-is_in.true) c.next_type.ensures

pub returns-else-is_in : goal.returns-else-is_in
returns-else-is_in c =
    let a = c.args in
    let n = c.next_word in
    let h = word_is a.text.now a.at a.inside n.result n.ensures c.in-Word.is in
    head_no_class a.text.now a.at a.inside h c.type_of.result (c.is_in.ensures.if_false c.if-is_in.false) c.type_of.ensures

pub returns-in_default : goal.returns-in_default
returns-in_default c =
    let a = c.args in
    let n = c.next_word in
    head_none a.text.now a.at a.inside head_of none_headed c.requires (no_word a.text.now a.at a.inside n.result c.in_default.not-Word n.ensures)
