use Prim.Native.Nat.{ℕ, ◌-◌, ◌<◌}
use mathlib.Core.Path.{◌≡◌, ap, ◌∙◌}
use native.Mathlib.Omega.{arith}
use borrow.Author.Rules.{rules}
use borrow.Author.Tests.{not-true, not-false}
use Rattle.base.proofs.Tests.{by_ltb, yes_by, no_by}
use Rattle.reverse.specs.Promise.{key_at}
use Rattle.reverse.specs.Sizes.{most_addresses}
use Rattle.reverse.proofs.SideLaws.{length_side, single_apart, apart_single}
use Rattle.reverse_row.proofs.no_address_twice.Goals as goal

pub loop-i-init : goal.loop-i-init
loop-i-init c = λ k j none. absurd (omega arith)

pub is_first-requires : goal.is_first-requires
is_first-requires c =
    let p = c.requires in
    (length_side most_addresses p.0 _ p.1, omega (arith, c.loop-i-test.true, c.count-used.ensures p.0 p.1, p.1.room))

pub returns-then-not-is_first : goal.returns-then-not-is_first
returns-then-not-is_first c = λ rs h.
    let i = c.loop-i.i in
    no_by (λ single. c.is_first.ensures.if_false c.if-not-is_first.true
    (λ j before same. single_apart most_addresses rs _ h single i j (omega (arith, c.loop-i-test.true, c.count-used.ensures rs h)) before same))

pub loop-i-preserved : goal.loop-i-preserved
loop-i-preserved c = λ k j lt before same.
    let b = c.args.reverse.now in
    let i = c.loop-i.i in
    by_ltb k i (λ earlier. c.loop-i.invariant k j earlier before same)
    (λ last.
    let here : k ≡ i = omega arith in
    c.is_first.ensures.if_true c.if-not-is_first.false j (omega (arith, before, here)) (same ∙ ap (key_at b) here))

pub returns : goal.returns
returns c = λ rs h.
    yes_by (apart_single most_addresses rs _ h (λ k j lt before same. c.loop-i.invariant k j (omega (arith, lt, c.loop-i-test.false, c.count-used.ensures rs h)) before same))
