use mathlib.Core.Bool.{false≢true}
use mathlib.Core.Path.{refl, sym, ◌∙◌}
use mathlib.Core.Logic.{inl, inr, ⊎_elim}
use borrow.Author.Tests.{not-true, not-false, eqb-false}
use borrow.Author.Rules.{rules}
use Rattle.lease_calls.proofs.sides_fault.Goals as goal

pub returns-then-not-known : goal.returns-then-not-known
returns-then-not-known c =
    let a = c.args in
    inr (eqb-false 12 0 refl, inl (λ known. false≢true (sym c.if-not-known.true ∙ known), refl))

pub returns-then-not-is_sound : goal.returns-then-not-is_sound
returns-then-not-is_sound c =
    let a = c.args in
    let known = c.if-not-known.false in
    inr (eqb-false 40 0 refl, inr (known, inl (λ sound. c.is_sound.ensures.if_false c.if-not-is_sound.true sound.0, refl)))

pub returns-then-not-is_sound-2 : goal.returns-then-not-is_sound-2
returns-then-not-is_sound-2 c =
    let a = c.args in
    let known = c.if-not-known.false in
    inr (eqb-false 40 0 refl, inr (known, inl (λ sound. c.is_sound-2.ensures.if_false c.if-not-is_sound-2.true sound.1, refl)))

pub returns-then-not-is_proper : goal.returns-then-not-is_proper
returns-then-not-is_proper c =
    let a = c.args in
    let known = c.if-not-known.false in
    let table = c.is_sound.ensures.if_true c.if-not-is_sound.false in
    let reverse = c.is_sound-2.ensures.if_true c.if-not-is_sound-2.false in
    inr (eqb-false 9 0 refl, inr (known, inr ((table, reverse), inl (c.is_proper.ensures.if_false c.if-not-is_proper.true, refl))))

pub returns : goal.returns
returns c =
    let a = c.args in
    let known = c.if-not-known.false in
    let table = c.is_sound.ensures.if_true c.if-not-is_sound.false in
    let reverse = c.is_sound-2.ensures.if_true c.if-not-is_sound-2.false in
    let proper = c.is_proper.ensures.if_true c.if-not-is_proper.false in
    ⊎_elim (λ j. inl (j.0, (known, ((table, reverse), (proper, j.1))))) (λ j. inr (j.0, inr (known, inr ((table, reverse), inr (proper, j.1))))) c.client_fault.ensures
