use native.Mathlib.Omega.{arith}
use borrow.Author.Tests.{not-true}
use Rattle.text.specs.Field.{Extended}
use Rattle.text.proofs.field.with_digit.Goals as goal

pub returns-then-form-digit : goal.returns-then-form-digit
returns-then-form-digit c = Extended.may_not (λ a. omega (arith, a.digit, a.room))

pub returns-then-value-eq0 : goal.returns-then-value-eq0
returns-then-value-eq0 c = Extended.may_not (λ a. omega (arith, a.leading (not-true _ c.if-not-form.true) c.if-digits-gt0.true))

pub returns-then-form-next : goal.returns-then-form-next
returns-then-form-next c = Extended.may_not (λ a. omega (arith, a.small))

pub returns : goal.returns
returns c =
    Extended.may
    (record {
      digit = omega arith;
      room = omega arith;
      leading = λ z some. grind arith;
      small = omega arith;
    })
