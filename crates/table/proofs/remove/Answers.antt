use mathlib.Core.Path.{refl, subst}
use mathlib.Core.List.{◌++◌}
use Rattle.base.specs.Bytes.{eq_bytes}
use Rattle.base.proofs.Tests.{passes}
use Rattle.name.specs.Name.{canonical}
use Rattle.slots.specs.Sizes.{most_names}
use Rattle.table.specs.Steps as step
use Rattle.table.specs.Promise.{Results}
use Rattle.table.specs.Calls.{name_tests, client_tests, argument_tests, Removes}
use Rattle.table.proofs.ArgumentLaws.{all_hold, the_fault, fault_as, hold_as, faulty, stepped}
use borrow.Author.Rules.{rules}
use Rattle.table.proofs.remove.Goals as goal

pub returns-then-fault-ne0 : goal.returns-then-fault-ne0
unfolding Removes
returns-then-fault-ne0 c =
    let a = c.args in
    let ts = name_tests most_names a.table.now a.name.now ++ client_tests a.dhcid.now a.family a.address.now in
    let known = c.is_family.ensures in
    let forth = known.if_true in
    let back = passes _ known in
    let g = c.argument_fault-fault in
    let fault = the_fault (argument_tests most_names _ a.table.now a.name.now a.dhcid.now a.family a.address.now) g.result c.if-fault-ne0.true g.ensures in
    faulty most_names (argument_tests most_names _ a.table.now a.name.now a.dhcid.now a.family a.address.now) _ _ _ _ g.result (fault_as 12 forth back ts g.result fault) c.refused.ensures refl

pub remove-requires : goal.remove-requires
remove-requires c =
    let a = c.args in
    let all = all_hold (argument_tests most_names _ a.table.now a.name.now a.dhcid.now a.family a.address.now) _ c.if-fault-ne0.false c.argument_fault-fault.ensures in
    all.1.0

pub returns : goal.returns
unfolding Removes
returns c =
    let a = c.args in
    let ts = name_tests most_names a.table.now a.name.now ++ client_tests a.dhcid.now a.family a.address.now in
    let known = c.is_family.ensures in
    let forth = known.if_true in
    let back = passes _ known in
    let all = all_hold (argument_tests most_names _ a.table.now a.name.now a.dhcid.now a.family a.address.now) _ c.if-fault-ne0.false c.argument_fault-fault.ensures in
    let s = all.1.0 in
    stepped most_names (argument_tests most_names _ a.table.now a.name.now a.dhcid.now a.family a.address.now) _ _ _ _ (hold_as 12 forth back ts all) s
    (subst (λ f. Results most_names (step.remove eq_bytes s.table (canonical a.name.now) a.dhcid.now f a.address.now) c.remove.result c.remove.new.table) c.family_of.ensures (c.remove.ensures s.table s.slots))
