use Prim.Native.Nat.{◌-◌, ◌≤◌}
use mathlib.Core.Path.{◌≡◌}
use native.Mathlib.Omega.{arith}
use lib.ListN.{length}
use borrow.Author.Rules.{rules}
use Rattle.base.proofs.Tests.{by_ltb}
use Rattle.reverse.specs.Promise.{OfReverse}
use Rattle.reverse.specs.Sizes.{most_addresses}
use Rattle.reverse.proofs.SideLaws.{length_side, used_slot, unused_first_byte}
use Rattle.reverse_row.proofs.count.Goals as goal

pub loop-i-init : goal.loop-i-init
loop-i-init c = λ rs h. omega arith

pub bounds-reverse-i : goal.bounds-reverse-i
bounds-reverse-i c =
    let p = c.requires in
    omega (arith, length_side most_addresses p.0 _ p.1, c.loop-i-test.true)

pub returns-then-number-eq0 : goal.returns-then-number-eq0
returns-then-number-eq0 c = λ rs h.
    let l = c.loop-i in
    by_ltb l.i (length rs) (λ used. absurd (used_slot most_addresses rs _ h l.i used c.if-number-eq0.true)) (λ all. omega (arith, l.invariant rs h))

pub loop-i-preserved : goal.loop-i-preserved
loop-i-preserved c = λ rs h.
    let l = c.loop-i in
    let b = c.args.reverse.now in
    by_ltb l.i (length rs) (λ used. omega arith)
    (λ all.
    let here : l.i ≡ length rs = omega (arith, l.invariant rs h) in
    absurd (c.if-number-eq0.false (rw here (unused_first_byte most_addresses rs b h (omega (arith, here, c.loop-i-test.true))))))

pub returns : goal.returns
returns c = λ rs h. omega (arith, c.loop-i.invariant rs h, h.room, c.loop-i-test.false)
