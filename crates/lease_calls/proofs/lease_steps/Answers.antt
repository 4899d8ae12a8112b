use Prim.Native.Nat.{◌<◌}
use native.Mathlib.Omega.{arith}
use Rattle.name.specs.Name.{canonical}
use Rattle.slots.specs.Sizes.{most_names}
use Rattle.reverse.specs.Sizes.{most_addresses}
use Rattle.reverse.proofs.SideLaws.{place_low}
use Rattle.lease_calls.proofs.StepLaws.{lease_refused_full, lease_carried_out}
use borrow.Author.Rules.{rules}
use Rattle.lease_calls.proofs.lease_steps.Goals as goal

pub returns-then-i-eq-SLOTS : goal.returns-then-i-eq-SLOTS
returns-then-i-eq-SLOTS c = λ t rs h g.
    let a = c.args in
    lease_refused_full most_names most_addresses (canonical a.name.now) a.dhcid.now a.family a.address.now t rs _ _ h g a.policy c.find-i.result c.refused.result
    (c.find-i.ensures rs g) c.if-i-eq-SLOTS.true c.refused.ensures

pub reverse_step-requires : goal.reverse_step-requires
reverse_step-requires c =
    let p = c.requires in
    let low = place_low c.args.family c.args.address.now p.1.names in
    let room = p.1.slots.room in
    (p.1, p.2, p.4, omega (arith, low, room, c.find-i.ensures p.1.names p.1.slots, c.if-i-eq-SLOTS.false))

pub returns : goal.returns
returns c = λ t rs h g.
    let a = c.args in
    let found = c.find-i.ensures rs g in
    let free : c.find-i.result < most_addresses = omega (arith, place_low a.family a.address.now rs, g.room, found, c.if-i-eq-SLOTS.false) in
    lease_carried_out most_names most_addresses (canonical a.name.now) a.dhcid.now a.family a.address.now t rs _ _ h g a.policy c.find-i.result c.add-added.result _ _
    found free (c.add-added.ensures t h) (c.reverse_step.ensures rs g found)
