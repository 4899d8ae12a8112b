use Prim.Native.Nat.{◌-◌}
use mathlib.Core.Path.{◌≡◌}
use native.Mathlib.Omega.{arith}
use lib.ListN.{length}
use borrow.Author.Rules.{rules}
use Rattle.entry.proofs.NextLaws.{word_is, no_word}
use Rattle.entry.proofs.DataLaws.{WordsRead, none_read_yet, one_more, all_read}
use Rattle.entry.proofs.data.dhcid.Goals as goal

pub loop-start-init : goal.loop-start-init
loop-start-init c = let a = c.args in none_read_yet a.text.now a.at a.inside c.begin-words.result c.requires c.begin-words.ensures

pub next_word-requires : goal.next_word-requires
next_word-requires c = c.loop-start.invariant.fits

pub slice_bounds-word-count : goal.slice_bounds-word-count
slice_bounds-word-count c =
    let t = c.args.text.now in
    let n = c.next_word in
    let h = word_is t c.loop-start.i c.loop-start.within n.result n.ensures c.in-Word.is in
    omega (arith, h.some, h.within)

pub slice_bounds-word-start : goal.slice_bounds-word-start
slice_bounds-word-start c =
    let t = c.args.text.now in
    let n = c.next_word in
    let h = word_is t c.loop-start.i c.loop-start.within n.result n.ensures c.in-Word.is in
    omega (arith, h.some, h.within)

pub slice_bounds-word-end : goal.slice_bounds-word-end
slice_bounds-word-end c =
    let t = c.args.text.now in
    let n = c.next_word in
    let h = word_is t c.loop-start.i c.loop-start.within n.result n.ensures c.in-Word.is in
    omega (arith, h.some, h.within)

pub loop-start-smaller : goal.loop-start-smaller
loop-start-smaller c =
    let t = c.args.text.now in
    let n = c.next_word in
    let h = word_is t c.loop-start.i c.loop-start.within n.result n.ensures c.in-Word.is in
    omega (arith, h.from, h.some, h.within)

pub loop-start-preserved : goal.loop-start-preserved
loop-start-preserved c =
    let t = c.args.text.now in
    let n = c.next_word in
    let h = word_is t c.loop-start.i c.loop-start.within n.result n.ensures c.in-Word.is in
    let a = c.args in
    one_more t a.at a.inside c.loop-start.words c.loop-start.i c.loop-start.within c.loop-start.invariant h c.word-more.result c.word-more.ensures

pub returns-in_default : goal.returns-in_default
returns-in_default c =
    let a = c.args in
    let t = a.text.now in
    let n = c.next_word in
    all_read t a.at a.inside c.loop-start.words c.loop-start.i c.loop-start.within c.loop-start.invariant
    (no_word t c.loop-start.i c.loop-start.within n.result c.in_default.not-Word n.ensures) c.finish.result c.filled.result c.filled.ensures
    c.finish.ensures
