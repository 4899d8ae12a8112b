use mathlib.Core.Path.{sym, ◌∙◌}
use Rattle.name.specs.Name.{canonical}
use Rattle.slots.specs.Sizes.{most_names}
use Rattle.table.proofs.RemovalLaws.{can_carry_out, carried_out, refused_outcome, accepted_outcome}
use Rattle.reverse.specs.Sizes.{most_addresses}
use Rattle.lease_calls.proofs.StepLaws.{address_not_refused, name_not_refused, end_refused, end_carried_out}
use borrow.Author.Rules.{rules}
use Rattle.lease_calls.proofs.end_steps.Goals.{in-Address, in-Name}
use Rattle.lease_calls.proofs.end_steps.Goals as goal

pub returns-in-Refused : goal.returns-in-Refused
returns-in-Refused c = λ t rs h g.
    let a = c.args in
    end_refused most_names most_addresses (canonical a.name.now) a.dhcid.now a.family a.address.now t rs _ _ h g c.in-Refused.number c.refused.result
    (refused_outcome t (canonical a.name.now) a.dhcid.now a.family a.address.now c.in-Refused.number (sym c.in-Refused.is ∙ c.removal_for-removal.ensures t h)) c.refused.ensures

pub carry_out-requires : goal.carry_out-requires
carry_out-requires c =
    let p = c.requires in
    let a = c.args in
    let s = p.0 in
    can_carry_out s.table (canonical a.name.now) a.dhcid.now a.family a.address.now most_names _ s.slots _ (c.removal_for-removal.ensures s.table s.slots)

pub returns : goal.returns
returns c = λ t rs h g.
    let a = c.args in
    let n = canonical a.name.now in
    let is = c.removal_for-removal.ensures t h in
    let out = accepted_outcome t n a.dhcid.now a.family a.address.now _ is (λ number refused. elim c.match-removal.branch [ in-Address w ↦ address_not_refused _ number (sym w.in-Address.is ∙ refused) | in-Name w ↦ name_not_refused _ number (sym w.in-Name.is ∙ refused) ]) in
    end_carried_out most_names most_addresses n a.dhcid.now a.family a.address.now t rs _ _ h g out.0 c.carry_out.result _ _ out.1
    (carried_out t n a.dhcid.now a.family a.address.now most_names _ h _ is _ _ c.carry_out.ensures) (c.take_out.ensures rs g)
