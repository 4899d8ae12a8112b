use mathlib.Core.Path.{sym, ◌∙◌}
use Rattle.dhcid.specs.Chosen.{from_message}
use Rattle.dhcid.proofs.ChoiceLaws.{for_refused, for_client, for_site}
use Rattle.dhcid.proofs.pick.Goals as goal

pub returns-then-request-ne0 : goal.returns-then-request-ne0
returns-then-request-ne0 c =
    let start = c.args in
    c.no_choice.ensures ∙ for_refused start.setting start.message.now start.request start.site.now c.if-request-ne0.true

pub uses_clients-requires : goal.uses_clients-requires
uses_clients-requires c = c.requires c.if-request-ne0.false

pub returns-then-uses_clients : goal.returns-then-uses_clients
unfolding from_message
returns-then-uses_clients c =
    let start = c.args in
    for_client start.setting start.message.now start.request start.site.now c.if-request-ne0.false (sym c.uses_clients.ensures ∙ c.if-uses_clients.true)

pub returns : goal.returns
returns c =
    let start = c.args in
    c.by_site.ensures
    ∙ for_site start.setting start.message.now start.request start.site.now c.if-request-ne0.false (sym c.uses_clients.ensures ∙ c.if-uses_clients.false)
