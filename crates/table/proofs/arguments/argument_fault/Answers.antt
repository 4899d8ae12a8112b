use mathlib.Core.Bool.{true, false≢true}
use mathlib.Core.Path.{◌≡◌, refl, sym, ◌∙◌}
use borrow.Author.Tests.{not-true, not-false, eqb-false}
use Rattle.base.specs.Order.{Test}
use Rattle.slots.specs.Sizes.{most_names}
use Rattle.table.specs.Calls.{name_tests, client_tests}
use Rattle.table.proofs.ArgumentLaws.{all_hold, the_fault, first_fails, part_fails, rest_judged}
use borrow.Author.Rules.{rules}
use Rattle.table.proofs.arguments.argument_fault.Goals as goal

pub returns-then-not-known : goal.returns-then-not-known
returns-then-not-known c =
    let a = c.args in
    let t : Test = record { number = 12; holds = a.known ≡ true } in
    let ts = name_tests most_names a.table.now a.name.now in
    let us = client_tests a.dhcid.now a.family a.address.now in
    first_fails t ts us (eqb-false 12 0 refl) (λ known. false≢true (sym c.if-not-known.true ∙ known))

pub returns-then-fault-ne0 : goal.returns-then-fault-ne0
returns-then-fault-ne0 c =
    let a = c.args in
    let t : Test = record { number = 12; holds = a.known ≡ true } in
    let ts = name_tests most_names a.table.now a.name.now in
    let us = client_tests a.dhcid.now a.family a.address.now in
    let n = c.name_fault-fault.result in
    part_fails t ts us c.if-not-known.false n c.if-fault-ne0.true (the_fault ts n c.if-fault-ne0.true c.name_fault-fault.ensures)

pub returns : goal.returns
returns c =
    let a = c.args in
    let t : Test = record { number = 12; holds = a.known ≡ true } in
    let ts = name_tests most_names a.table.now a.name.now in
    let us = client_tests a.dhcid.now a.family a.address.now in
    rest_judged t ts us c.if-not-known.false c.client_fault.result (all_hold ts c.name_fault-fault.result c.if-fault-ne0.false c.name_fault-fault.ensures) c.client_fault.ensures
