use mathlib.Core.Bool.{true, false, false≢true}
use mathlib.Core.Path.{◌≡◌, refl, sym, ap, ◌∙◌}
use mathlib.Core.Logic.{inl, inr}
use borrow.Author.Tests.{not-true, not-false, eqb-false}
use Rattle.slots.specs.Entry.{address_size}
use borrow.Author.Rules.{rules}
use Rattle.table.proofs.arguments.client_fault.Goals as goal

pub returns-then-not-is_well_formed : goal.returns-then-not-is_well_formed
returns-then-not-is_well_formed c =
    let w = c.is_well_formed in
    inr (eqb-false 15 0 refl, inl (λ good. false≢true (sym (sym w.ensures ∙ c.if-not-is_well_formed.true) ∙ good), refl))

pub returns-then-address-address_size : goal.returns-then-address-address_size
returns-then-address-address_size c =
    let w = c.is_well_formed in
    let size = c.address_size.ensures ∙ ap address_size c.family_of.ensures in
    inr (eqb-false 16 0 refl, inr (sym w.ensures ∙ c.if-not-is_well_formed.false, inl (λ e. c.if-address-address_size.true (e ∙ sym size), refl)))

pub returns : goal.returns
returns c =
    let w = c.is_well_formed in
    let size = c.address_size.ensures ∙ ap address_size c.family_of.ensures in
    inl (refl, (sym w.ensures ∙ c.if-not-is_well_formed.false, (c.if-address-address_size.false ∙ size, tt)))
