use Prim.Native.Nat.{◌+◌, ◌*◌, ◌/◌}
use mathlib.Core.Path.{refl, sym, subst}
use native.Mathlib.Omega.{arith}
use borrow.Author.Count.{below_more}
use Rattle.base.proofs.Fill.{filled_none, filled_more, filled_all}
use Rattle.text.specs.Reading.{yes_read, none_read}
use Rattle.address.specs.Address.{SpellsAAAA}
use Rattle.address.proofs.WholeLaws.{byte_at, high_value, low_value, whole_spells, spelled_colons, spelled_digits}
use Rattle.address.proofs.read_whole.Goals as goal

pub returns-then-not-has_colons : goal.returns-then-not-has_colons
returns-then-not-has_colons c = none_read (λ bs s. c.has_colons.ensures.if_false c.if-not-has_colons.true (spelled_colons _ bs c.requires s))

pub loop-k-init : goal.loop-k-init
loop-k-init c = (filled_none _ _ _ refl, λ m lt. absurd (omega arith))

pub returns-then-high-gt15 : goal.returns-then-high-gt15
returns-then-high-gt15 c =
    let w = c.args.word.now in
    let values = c.digit_values-values in
    let k = c.loop-k.k in
    none_read
    (λ bs s.
    let d = spelled_digits w bs c.requires s k (omega arith) in
    omega (arith, d.high, d.low, high_value w values.result values.ensures k (c.type_inv.word (2 * k + k / 2)).fits, low_value w values.result values.ensures k (c.type_inv.word (2 * k + k / 2 + 1)).fits))

pub loop-k-preserved : goal.loop-k-preserved
unfolding byte_at
loop-k-preserved c =
    let w = c.args.word.now in
    let values = c.digit_values-values in
    let l = c.loop-k in
    let k = l.k in
    let high = high_value w values.result values.ensures k (c.type_inv.word (2 * k + k / 2)).fits in
    let low = low_value w values.result values.ensures k (c.type_inv.word (2 * k + k / 2 + 1)).fits in (
      filled_more _ _ _ _ _ l.invariant.0 (omega arith) (λ i. high i * 16 + low i),
      below_more _ _ l.invariant.1 (record { high = omega (arith, high); low = omega (arith, low) }),
    )

pub returns : goal.returns
returns c =
    let w = c.args.word.now in
    let l = c.loop-k in
    yes_read
    (subst (SpellsAAAA w) (sym (filled_all _ _ _ _ l.invariant.0 (omega arith)))
    (whole_spells w c.requires (c.has_colons.ensures.if_true c.if-not-has_colons.false) (λ k lt. l.invariant.1 k (omega arith))))
