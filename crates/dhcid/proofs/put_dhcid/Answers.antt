use Rattle.dhcid.proofs.SaysLaws.{read_placed}
use Rattle.dhcid.proofs.ChoiceLaws.{lies_as}
use Rattle.dhcid.proofs.WritingLaws.{choice_is, puts_refused, hashable, puts_under}
use borrow.Author.Rules.{rules}
use Rattle.dhcid.proofs.put_dhcid.Goals as goal

pub pick-chosen-requires : goal.pick-chosen-requires
pick-chosen-requires c =
    let start = c.args in
    λ z. (read_placed start.family start.setting start.message.now c.read-request.result c.read-request.ensures z).name

pub returns-then-chosen-ne0 : goal.returns-then-chosen-ne0
returns-then-chosen-ne0 c =
    let start = c.args in
    puts_refused start.family start.setting start.message.now start.site.now start.out.now _ _ c.read-request.ensures c.pick-chosen.ensures c.if-chosen-ne0.true

pub name_of-requires : goal.name_of-requires
name_of-requires c =
    let start = c.args in
    (lies_as start.family start.setting start.message.now start.site.now c.pick-chosen.result
    (choice_is start.family start.setting start.message.now start.site.now start.out.now _ _ c.read-request.ensures c.pick-chosen.ensures)).inside

pub put_under-requires : goal.put_under-requires
put_under-requires c =
    let start = c.args in
    hashable start.family start.setting start.message.now start.site.now start.out.now _ _ c.read-request.ensures c.pick-chosen.ensures
    c.if-chosen-ne0.false _ c.name_of.ensures.bytes

pub returns : goal.returns
returns c =
    let start = c.args in
    puts_under start.family start.setting start.message.now start.site.now start.out.now _ _ c.read-request.ensures c.pick-chosen.ensures
    c.if-chosen-ne0.false _ c.name_of.ensures.bytes _ _ c.put_under.ensures
