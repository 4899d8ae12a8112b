use mathlib.Core.Path.{sym, ◌∙◌}
use Rattle.dhcid.specs.Chosen.{from_site}
use Rattle.dhcid.proofs.ChoiceLaws.{same_test, site_proper, site_improper}
use Rattle.dhcid.proofs.by_site.Goals as goal

pub returns-then-not-is_proper : goal.returns-then-not-is_proper
returns-then-not-is_proper c =
    let site = c.args.site.now in
    let is = c.is_proper in
    c.no_choice.ensures ∙ site_improper site (sym (same_test site is.result is.ensures) ∙ c.if-not-is_proper.true)

pub returns : goal.returns
unfolding from_site
returns c =
    let site = c.args.site.now in
    let is = c.is_proper in
    site_proper site (sym (same_test site is.result is.ensures) ∙ c.if-not-is_proper.false)
