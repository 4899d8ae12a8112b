use native.Mathlib.Omega.{arith}
use mathlib.Core.Path.{refl}
use Rattle.dhcid_text.proofs.DhcidWordLaws.{too_many16, no_high, no_low, another_byte}
use borrow.Author.Rules.{rules}
use Rattle.dhcid_text.proofs.hexadecimal_byte.Goals as goal

pub returns-then-count-gt69 : goal.returns-then-count-gt69
returns-then-count-gt69 c =
    let a = c.args in
    λ ds t. too_many16 ds a.high a.low a.s _ c.fresh.ensures (search rules) c.if-count-gt69.true t

pub returns-then-x-gt15 : goal.returns-then-x-gt15
returns-then-x-gt15 c =
    let a = c.args in
    λ ds t. no_high ds a.high a.low a.s _ c.fresh-then-x-gt15.ensures (search rules) (omega (arith, c.digit_value-x.ensures)) t

pub returns-then-y-gt15 : goal.returns-then-y-gt15
returns-then-y-gt15 c =
    let a = c.args in
    λ ds t. no_low ds a.high a.low a.s _ c.fresh-then-y-gt15.ensures (search rules) (omega (arith, c.digit_value-y.ensures)) t

pub returns : goal.returns
returns c =
    let a = c.args in
    let x = c.digit_value-x in
    let y = c.digit_value-y in
    λ ds t.
    another_byte ds a.high a.low a.s _ _ (search rules) (omega arith) (omega (arith, x.ensures)) (omega (arith, y.ensures)) refl refl (omega (arith, x.ensures, y.ensures)) refl t
