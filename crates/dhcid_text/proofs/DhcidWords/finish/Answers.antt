use mathlib.Core.Path.{sym, ◌∙◌}
use Rattle.text.specs.Reading.{yes_read, none_read}
use Rattle.dhcid_text.proofs.DhcidWordLaws.{spelled, test_fails, incomplete}
use Rattle.dhcid_text.proofs.DhcidWords.finish.Goals as goal

pub returns-then-not-is_complete : goal.returns-then-not-is_complete
returns-then-not-is_complete c =
    let s = c.args.self in
    λ ws h. none_read (λ bs sp. incomplete ws s bs sp (c.is_complete.ensures.if_false c.if-not-is_complete.true) h)

pub returns-then-not-is_well_formed : goal.returns-then-not-is_well_formed
returns-then-not-is_well_formed c =
    let s = c.args.self in
    λ ws h.
    none_read
    (λ bs sp.
    test_fails ws s bs sp (c.is_complete.ensures.if_true c.if-not-is_complete.false) (sym c.is_well_formed.ensures ∙ c.if-not-is_well_formed.true) h)

pub returns : goal.returns
returns c =
    let s = c.args.self in
    λ ws h.
    yes_read
    (spelled ws s (c.is_complete.ensures.if_true c.if-not-is_complete.false) (sym c.is_well_formed.ensures ∙ c.if-not-is_well_formed.false) h)
