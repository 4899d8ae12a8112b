use mathlib.Core.Logic.{inl}
use native.Mathlib.Omega.{arith}
use Rattle.text.proofs.ScanLaws.{refused, scanning_next, scanning_digit, scanning_all, no_next, no_digit, no_end}
use Rattle.text.proofs.field.read_fields.Goals as goal
use Rattle.text.proofs.field.read_fields.Goals.{then-b-form+else-digits-eq0+else-last-k, else-b-form+in_ok-value}

pub returns-then-digits-eq0 : goal.returns-then-digits-eq0
returns-then-digits-eq0 c =
    refused _ c.requires _
    (no_next _ c.requires _ _ _ _ _ _ c.loop-b.invariant (omega arith) c.if-b-form.true (λ some. omega arith))

pub returns-in_err-value : goal.returns-in_err-value
returns-in_err-value c =
    rw c.from_residual.ensures
    (refused _ c.requires _
    (no_digit _ c.requires _ _ _ _ _ _ c.loop-b.invariant (omega arith) c.if-b-form.false (rw c.digit_value.ensures at c.in_err-value.ensures)))

pub loop-b-preserved : goal.loop-b-preserved
loop-b-preserved c =
    elim c.if-b-form.branch [
      | then-b-form+else-digits-eq0+else-last-k w ↦
          rw (w.values-is, w.k-is, w.value-is, w.digits-is)
          (scanning_next _ c.requires _ _ _ _ _ _ c.loop-b.invariant (omega arith) w.if-b-form.true (omega arith) (omega arith))
      | else-b-form+in_ok-value w ↦
          rw (w.values-is, w.k-is, w.value-is, w.digits-is)
          (scanning_digit _ c.requires _ _ _ _ _ _ c.loop-b.invariant (omega arith) w.if-b-form.false (rw w.digit_value.ensures at w.in_ok-value.ensures))
    ]

pub returns-then-digits-eq0-2 : goal.returns-then-digits-eq0-2
returns-then-digits-eq0-2 c =
    refused _ c.requires _ (no_end _ c.requires _ _ _ _ _ _ c.loop-b.invariant (omega arith) (λ some full. omega arith))

pub returns : goal.returns
returns c = inl (scanning_all _ c.requires _ _ _ _ _ _ c.loop-b.invariant (omega arith) (omega arith) (omega arith))
