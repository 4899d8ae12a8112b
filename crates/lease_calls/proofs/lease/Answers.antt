use mathlib.Core.Path.{sym, ap, subst, ◌∙◌}
use Rattle.base.proofs.Tests.{passes, both}
use Rattle.name.specs.Name.{canonical}
use Rattle.slots.specs.Entry.{address_size}
use Rattle.slots.specs.Sizes.{most_names}
use Rattle.table.proofs.ArgumentLaws.{all_hold, the_fault, fault_as, hold_as}
use Rattle.reverse.specs.Sizes.{most_addresses}
use Rattle.leases.specs.Plan.{lease_plan}
use Rattle.leases.specs.Calls.{both_tests, sides_tests, Leases}
use Rattle.lease_calls.specs.Promise.{CarriedOut}
use Rattle.lease_calls.proofs.CallLaws.{faulty_call, planned_call}
use borrow.Author.Rules.{rules}
use Rattle.lease_calls.proofs.lease.Goals as goal

pub returns-then-fault-ne0 : goal.returns-then-fault-ne0
unfolding Leases
returns-then-fault-ne0 c =
    let a = c.args in
    let known = both c.is_family.result c.is_policy.result c.is_family.ensures c.is_policy.ensures in
    let g = c.sides_fault-fault in
    let fault = the_fault (sides_tests most_names most_addresses _ a.table.now a.reverse.now a.name.now a.dhcid.now a.family a.address.now) g.result c.if-fault-ne0.true g.ensures in
    faulty_call most_names most_addresses (sides_tests most_names most_addresses _ a.table.now a.reverse.now a.name.now a.dhcid.now a.family a.address.now) a.table.now a.reverse.now _ _ g.result (fault_as 12 known.if_true (passes _ known) (both_tests most_names most_addresses a.table.now a.reverse.now a.name.now a.dhcid.now a.family a.address.now) g.result fault) c.refused.ensures

pub lease_steps-requires : goal.lease_steps-requires
lease_steps-requires c =
    let a = c.args in
    let all = all_hold (sides_tests most_names most_addresses _ a.table.now a.reverse.now a.name.now a.dhcid.now a.family a.address.now) _ c.if-fault-ne0.false c.sides_fault-fault.ensures in
    (all.1.0.0, all.1.0.1, all.1.1.0, all.1.1.1.0, all.1.1.1.1.0 ∙ ap address_size (sym c.family_of.ensures))

pub returns : goal.returns
unfolding Leases
returns c =
    let a = c.args in
    let known = both c.is_family.result c.is_policy.result c.is_family.ensures c.is_policy.ensures in
    let all = all_hold (sides_tests most_names most_addresses _ a.table.now a.reverse.now a.name.now a.dhcid.now a.family a.address.now) _ c.if-fault-ne0.false c.sides_fault-fault.ensures in
    let s = all.1.0.0 in
    let u = all.1.0.1 in
    planned_call most_names most_addresses (sides_tests most_names most_addresses _ a.table.now a.reverse.now a.name.now a.dhcid.now a.family a.address.now) a.table.now a.reverse.now _ _ _ _ (hold_as 12 known.if_true (passes _ known) (both_tests most_names most_addresses a.table.now a.reverse.now a.name.now a.dhcid.now a.family a.address.now) all) s u
    (subst (λ f. CarriedOut most_names most_addresses (lease_plan most_names most_addresses (canonical a.name.now) a.dhcid.now f a.address.now a.policy) s.table u.names c.lease_steps.result c.lease_steps.new.table c.lease_steps.new.reverse)
    c.family_of.ensures (c.lease_steps.ensures s.table u.names s.slots u.slots))
