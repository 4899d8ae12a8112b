use Prim.Native.Nat.{◌-◌, ◌≤◌}
use mathlib.Core.Path.{◌≡◌, sym, ap, ◌∙◌}
use native.Mathlib.Omega.{arith}
use lib.ListN.{length}
use borrow.Author.Rules.{rules}
use Rattle.entry.specs.EntryAt.{not_at_fault}
use Rattle.entry.proofs.NextLaws.{word_is, word_ends}
use Rattle.entry.proofs.ShapeLaws.{right, line_right, end_right, fault_wrong}
use Rattle.entry.proofs.shape_is_right.Goals as goal

pub loop-end-smaller : goal.loop-end-smaller
loop-end-smaller c =
    let t = c.args.text.now in
    let n = c.next_word in
    let h = word_is t c.loop-end.i c.loop-end.within n.result n.ensures c.in-Word.is in
    omega (arith, h.from, h.some, h.within)

pub loop-end-preserved : goal.loop-end-preserved
loop-end-preserved c =
    let t = c.args.text.now in
    let n = c.next_word in
    let h = word_is t c.loop-end.i c.loop-end.within n.result n.ensures c.in-Word.is in
    record { from = omega (arith, h.from, h.some); fits = h.within; same = c.loop-end.invariant.same ∙ ap not_at_fault (word_ends t c.loop-end.i c.loop-end.within h) }

pub returns-in-Line : goal.returns-in-Line
returns-in-Line c =
    let t = c.args.text.now in
    let n = c.next_word in
    sym (c.loop-end.invariant.same ∙ line_right t c.loop-end.i c.loop-end.within n.result n.ensures c.in-Line.is)

pub returns-in-End : goal.returns-in-End
returns-in-End c =
    let t = c.args.text.now in
    let n = c.next_word in
    sym (c.loop-end.invariant.same ∙ end_right t c.loop-end.i c.loop-end.within n.result n.ensures c.in-End.is)

pub returns-in-Fault : goal.returns-in-Fault
returns-in-Fault c =
    let t = c.args.text.now in
    let n = c.next_word in
    sym (c.loop-end.invariant.same ∙ fault_wrong t c.loop-end.i c.loop-end.within n.result n.ensures c.in-Fault.is)
