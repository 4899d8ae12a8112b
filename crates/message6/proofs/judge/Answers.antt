use Prim.Native.Nat.{◌≤◌}
use mathlib.Core.Bool.{true}
use mathlib.Core.Path.{◌≡◌, sym, ◌∙◌}
use native.Mathlib.Omega.{arith}
use lib.Dec.{leb}
use borrow.Author.Tests.{leb-true}
use Rattle.base.proofs.Tests.{and_right}
use Rattle.message6.specs.Walking6.{is_name, judged}
use Rattle.message6.proofs.judge.Goals as goal

pub returns-then-duid : goal.returns-then-duid
unfolding judged
returns-then-duid c = c.refused.ensures ∙ sym (rw c.if-duid.true)

pub returns-then-name : goal.returns-then-name
unfolding judged
returns-then-name c = c.refused-then-name.ensures ∙ sym (rw (c.if-duid.false, c.if-name.true))

pub returns-then-not-is_duid : goal.returns-then-not-is_duid
unfolding judged
returns-then-not-is_duid c =
    c.refused-then-not-is_duid.ensures ∙ sym (rw (c.if-duid.false, c.if-name.false, sym c.is_duid.ensures, c.if-not-is_duid.true))

pub returns-then-not-is_name : goal.returns-then-not-is_name
unfolding judged
returns-then-not-is_name c =
    let duid = c.if-not-is_duid.false in
    c.accepted.ensures
    ∙ sym (rw (c.if-duid.false, c.if-name.false, sym c.is_duid.ensures, duid, sym c.is_name.ensures, c.if-not-is_name.true))

pub overflow_add-part : goal.overflow_add-part
overflow_add-part c =
    let s = c.args.level.name in
    let named : is_name s ≡ true = sym c.is_name.ensures ∙ c.if-not-is_name.false in
    let some_bytes : 1 ≤ s.part.len = leb-true 1 s.part.len (and_right s.found (leb 1 s.part.len) named) in
    record { fits = omega (arith, c.requires, some_bytes) }

pub overflow_sub-part : goal.overflow_sub-part
overflow_sub-part c =
    let s = c.args.level.name in
    let named : is_name s ≡ true = sym c.is_name.ensures ∙ c.if-not-is_name.false in
    let some_bytes : 1 ≤ s.part.len = leb-true 1 s.part.len (and_right s.found (leb 1 s.part.len) named) in
    some_bytes

pub returns : goal.returns
unfolding judged
returns c =
    let duid = c.if-not-is_duid.false in
    c.accepted-2.ensures
    ∙ sym (rw (c.if-duid.false, c.if-name.false, sym c.is_duid.ensures, duid, sym c.is_name.ensures, c.if-not-is_name.false))
