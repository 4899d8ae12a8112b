use mathlib.Core.Path.{refl}
use mathlib.Core.Logic.{inl, inr}
use borrow.Author.Tests.{not-true, not-false, eqb-false}
use borrow.Author.Rules.{rules}
use Rattle.table.proofs.arguments.name_fault.Goals as goal

pub returns-then-not-is_sound : goal.returns-then-not-is_sound
returns-then-not-is_sound c = inr (eqb-false 40 0 refl, inl (c.is_sound.ensures.if_false c.if-not-is_sound.true, refl))

pub returns-then-not-is_proper : goal.returns-then-not-is_proper
returns-then-not-is_proper c =
    let sound = c.is_sound.ensures.if_true c.if-not-is_sound.false in
    inr (eqb-false 9 0 refl, inr (sound, inl (c.is_proper.ensures.if_false c.if-not-is_proper.true, refl)))

pub returns : goal.returns
returns c =
    let sound = c.is_sound.ensures.if_true c.if-not-is_sound.false in
    inl (refl, (sound, (c.is_proper.ensures.if_true c.if-not-is_proper.false, tt)))
