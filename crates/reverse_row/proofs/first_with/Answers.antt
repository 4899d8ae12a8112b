use Prim.Native.Nat.{ℕ, ◌-◌, ◌≤◌, ◌<◌}
use mathlib.Core.Path.{◌≡◌, sym, ap, ◌∙◌}
use native.Mathlib.Omega.{arith}
use lib.ListN.{length-take, length-drop}
use borrow.Author.Rules.{rules}
use Rattle.base.proofs.Tests.{by_ltb}
use Rattle.reverse.specs.Promise.{key_at}
use Rattle.reverse_row.proofs.KeyLaws.{key_part}
use Rattle.reverse_row.proofs.first_with.Goals as goal

pub loop-i-init : goal.loop-i-init
loop-i-init c = (omega arith, λ j none. absurd (omega arith))

pub same_key-requires : goal.same_key-requires
same_key-requires c = (simp (length-take, length-drop) (omega arith), c.requires.1)

pub returns-then-same_key : goal.returns-then-same_key
returns-then-same_key c =
    let b = c.args.reverse.now in
    record { low = c.loop-i.invariant.0; before = c.loop-i.invariant.1; there = λ lt. key_part b c.loop-i.i ∙ c.same_key.ensures.if_true c.if-same_key.true }

pub loop-i-preserved : goal.loop-i-preserved
loop-i-preserved c =
    let b = c.args.reverse.now in
    let i = c.loop-i.i in (
      omega (arith, c.loop-i-test.true),
      λ j lt e.
          by_ltb j i (λ before. c.loop-i.invariant.1 j before e)
          (λ last.
          let here : i ≡ j = omega arith in
          c.same_key.ensures.if_false c.if-same_key.false (sym (key_part b i) ∙ ap (key_at b) here ∙ e)),
    )

pub returns : goal.returns
returns c = record { low = c.loop-i.invariant.0; before = c.loop-i.invariant.1; there = λ lt. absurd (omega (arith, lt, c.loop-i-test.false)) }
