use native.Mathlib.Omega.{arith}
use Rattle.base.proofs.Tests.{no_by}
use Rattle.name.proofs.NotInLabelLaws.{proper_two, held_decides, hopped_not_in_label, hopped_last, hopped_long, hopped_more, hopped_end}
use Rattle.name.proofs.wire.is_canonical.Goals as goal

pub returns-then-n-lt2 : goal.returns-then-n-lt2
returns-then-n-lt2 c = no_by (λ h. omega (arith, proper_two _ h.0))

pub returns-then-b-eq0 : goal.returns-then-b-eq0
returns-then-b-eq0 c =
    held_decides _ _ (hopped_last _ _ c.loop-i.i c.loop-i.invariant c.loop-i-test.true c.if-b-eq0.true) (omega arith) (omega arith)

pub returns-then-b-gt-LONGEST_LABEL : goal.returns-then-b-gt-LONGEST_LABEL
returns-then-b-gt-LONGEST_LABEL c =
    held_decides _ _ (hopped_long _ _ c.loop-i.i c.loop-i.invariant c.loop-i-test.true c.if-b-gt-LONGEST_LABEL.true) (omega arith) (omega arith)

pub overflow_sub-left : goal.overflow_sub-left
overflow_sub-left c =
    omega (arith, c.not_in_label-left.ensures, hopped_not_in_label _ _ c.loop-i.i c.loop-i.invariant c.loop-i-test.true)

pub loop-i-preserved : goal.loop-i-preserved
loop-i-preserved c =
    hopped_more _ _ c.loop-i.i c.loop-i.invariant c.loop-i-test.true _ c.not_in_label-left.ensures c.if-b-eq0.false (omega arith)

pub returns : goal.returns
returns c =
    held_decides _ _ (hopped_end _ _ c.loop-i.i c.loop-i.invariant c.loop-i-test.false) (omega arith) (omega arith)
