use native.Mathlib.Omega.{arith}
use Rattle.entry.proofs.NextLaws.{word_is, no_word}
use Rattle.entry.proofs.DataLaws.{no_address, an_a, an_aaaa}
use borrow.Author.Rules.{rules}
use Rattle.entry.proofs.data.address.Goals as goal

pub slice_bounds-word-count : goal.slice_bounds-word-count
slice_bounds-word-count c =
    let a = c.args in
    let n = c.next_word in
    let h = word_is a.text.now a.at a.inside n.result n.ensures c.in-Word.is in
    omega (arith, h.some, h.within)

pub slice_bounds-word-start : goal.slice_bounds-word-start
slice_bounds-word-start c =
    let a = c.args in
    let n = c.next_word in
    let h = word_is a.text.now a.at a.inside n.result n.ensures c.in-Word.is in
    omega (arith, h.some, h.within)

pub slice_bounds-word-end : goal.slice_bounds-word-end
slice_bounds-word-end c =
    let a = c.args in
    let n = c.next_word in
    let h = word_is a.text.now a.at a.inside n.result n.ensures c.in-Word.is in
    omega (arith, h.some, h.within)

pub returns-then-rtype-eq-TYPE_A : goal.returns-then-rtype-eq-TYPE_A
returns-then-rtype-eq-TYPE_A c =
    let a = c.args in
    let n = c.next_word in
    let h = word_is a.text.now a.at a.inside n.result n.ensures c.in-Word.is in
    an_a a.text.now a.at a.inside a.rtype h c.read_a.result c.filled.result c.filled.ensures c.if-rtype-eq-TYPE_A.true c.read_a.ensures

pub returns-else-rtype-eq-TYPE_A : goal.returns-else-rtype-eq-TYPE_A
returns-else-rtype-eq-TYPE_A c =
    let a = c.args in
    let n = c.next_word in
    let h = word_is a.text.now a.at a.inside n.result n.ensures c.in-Word.is in
    an_aaaa a.text.now a.at a.inside a.rtype h c.read_aaaa.result c.filled-in-Word.result c.filled-in-Word.ensures c.if-rtype-eq-TYPE_A.false c.read_aaaa.ensures

pub returns-in_default : goal.returns-in_default
returns-in_default c =
    let a = c.args in
    let n = c.next_word in
    no_address a.text.now a.at a.inside a.rtype c.requires (no_word a.text.now a.at a.inside n.result c.in_default.not-Word n.ensures)
