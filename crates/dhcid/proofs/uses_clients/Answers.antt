use mathlib.Core.Path.{ap, ◌∙◌}
use borrow.Author.Tests.{not-true, not-false}
use Rattle.name.specs.ProperTest.{is_proper}
use Rattle.dhcid.proofs.ChoiceLaws.{same_test, other_setting, no_name, with_name}
use Rattle.dhcid.proofs.uses_clients.Goals as goal

pub returns-then-setting-ne-CLIENT_FIRST : goal.returns-then-setting-ne-CLIENT_FIRST
returns-then-setting-ne-CLIENT_FIRST c =
    let start = c.args in
    other_setting start.setting start.message.now start.request c.if-setting-ne-CLIENT_FIRST.true

pub returns-then-not-request : goal.returns-then-not-request
returns-then-not-request c =
    let start = c.args in
    no_name start.setting start.message.now start.request c.if-setting-ne-CLIENT_FIRST.false (not-true start.request.has_name c.if-not-request.true)

pub part_of-requires : goal.part_of-requires
part_of-requires c = c.requires (not-false c.args.request.has_name c.if-not-request.false)

pub returns : goal.returns
returns c =
    let start = c.args in
    same_test _ c.is_proper.result c.is_proper.ensures ∙ ap is_proper c.part_of.ensures.bytes
    ∙ with_name start.setting start.message.now start.request c.if-setting-ne-CLIENT_FIRST.false (not-false start.request.has_name c.if-not-request.false)
