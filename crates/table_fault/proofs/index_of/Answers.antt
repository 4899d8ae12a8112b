use Prim.Native.Nat.{◌-◌}
use mathlib.Core.Path.{sym, ◌∙◌}
use native.Mathlib.Omega.{arith}
use borrow.Author.Rules.{rules}
use Rattle.table_fault.proofs.KeptLaws.{Passed, passed_none, passed_mark, passed_owner, kept_within, is_there, is_nowhere}
use Rattle.table_fault.proofs.index_of.Goals as goal
use Rattle.table_fault.proofs.index_of.Goals.{then-marks-i+else-is_owner, else-marks-i}

pub loop-i-init : goal.loop-i-init
loop-i-init c = passed_none _ _ _ _ _

pub overflow_cast-starts : goal.overflow_cast-starts
overflow_cast-starts c =
    let l = c.loop-i in
    omega (arith, kept_within _ _ _ _ _ l.i l.invariant c.requires.3 (c.if-marks-i.true ∙ c.requires.4) c.loop-i-test.true c.requires.2)

pub is_owner-requires : goal.is_owner-requires
is_owner-requires c =
    let l = c.loop-i in
    (c.requires.3, kept_within _ _ _ _ _ l.i l.invariant c.requires.3 (c.if-marks-i.true ∙ c.requires.4) c.loop-i-test.true c.requires.2)

pub returns-then-is_owner : goal.returns-then-is_owner
returns-then-is_owner c =
    let l = c.loop-i in
    is_there _ _ _ _ _ l.i l.invariant c.requires.3 (c.if-marks-i.true ∙ c.requires.4) c.is_owner.result c.is_owner.ensures c.loop-i-test.true c.if-is_owner.true

pub loop-i-preserved : goal.loop-i-preserved
loop-i-preserved c =
    let l = c.loop-i in
    let more = c.loop-i-test.true in
    elim c.if-marks-i.branch [
      | then-marks-i+else-is_owner w ↦ passed_owner _ _ _ _ _ l.i l.invariant c.requires.3 (w.if-marks-i.true ∙ c.requires.4) w.is_owner.result w.is_owner.ensures more w.if-is_owner.false
      | else-marks-i w ↦ passed_mark _ _ _ _ _ l.i l.invariant more (λ e. w.if-marks-i.false (e ∙ sym c.requires.4))
    ]

pub returns : goal.returns
returns c = is_nowhere _ _ _ _ _ c.loop-i.i c.loop-i.invariant c.loop-i-test.false
