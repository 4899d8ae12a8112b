use Prim.Native.Nat.{◌+◌, ◌-◌}
use mathlib.Core.Path.{refl}
use native.Mathlib.Omega.{arith}
use lib.ListN.{length, get_or}
use borrow.Author.Rules.{rules}
use borrow.Author.Tests.{not-true, not-false}
use Rattle.base.proofs.Tests.{yes_by, no_by}
use Rattle.table_fault.proofs.LabelLaws.{Same, same_none, same_last, same_all, not_dotted, not_labelled, same_more}
use Rattle.table_fault.proofs.is_text_of.Goals as goal

pub loop-at-init : goal.loop-at-init
loop-at-init c = same_none _ _ c.requires

pub overflow_cast-end : goal.overflow_cast-end
overflow_cast-end c = omega (arith, c.type_inv.name c.loop-at.at)

pub overflow_add-end : goal.overflow_add-end
overflow_add-end c = omega (arith, c.type_inv.name c.loop-at.at)

pub returns-then-word-end : goal.returns-then-word-end
returns-then-word-end c =
    let w = c.args.word.now in
    let n = c.args.name.now in
    let l = c.loop-at in
    same_last w n c.requires l.at l.invariant (omega arith) c.matches.result (length w - l.at) (length n - (l.at + 1)) (omega arith) (omega arith) c.matches.ensures

pub returns-then-word-end-ne-DOT : goal.returns-then-word-end-ne-DOT
returns-then-word-end-ne-DOT c =
    let w = c.args.word.now in
    let n = c.args.name.now in
    let l = c.loop-at in
    let k = get_or n l.at 0 in
    no_by (not_dotted w n c.requires l.at l.invariant k refl (omega arith) c.if-word-end-ne-DOT.true)

pub returns-then-not-matches : goal.returns-then-not-matches
returns-then-not-matches c =
    let w = c.args.word.now in
    let n = c.args.name.now in
    let l = c.loop-at in
    let k = get_or n l.at 0 in
    no_by (not_labelled w n c.requires l.at l.invariant k refl (omega arith) (l.at + k - l.at) (l.at + k + 1 - (l.at + 1)) (omega arith) (omega arith) c.matches-in-loop-at.result c.matches-in-loop-at.ensures c.if-not-matches.true)

pub loop-at-preserved : goal.loop-at-preserved
loop-at-preserved c =
    let w = c.args.word.now in
    let n = c.args.name.now in
    let l = c.loop-at in
    let k = get_or n l.at 0 in
    same_more w n c.requires l.at l.invariant k refl (omega arith) c.if-word-end-ne-DOT.false (l.at + k - l.at) (l.at + k + 1 - (l.at + 1)) (omega arith) (omega arith) c.matches-in-loop-at.result c.matches-in-loop-at.ensures c.if-not-matches.false

pub returns : goal.returns
returns c =
    let w = c.args.word.now in
    let n = c.args.name.now in
    let l = c.loop-at in
    yes_by (same_all w n c.requires l.at l.invariant (omega arith))
