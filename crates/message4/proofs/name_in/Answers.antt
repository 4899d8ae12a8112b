use mathlib.Core.Path.{sym, ◌∙◌}
use native.Mathlib.Omega.{arith}
use borrow.Author.Tests.{not-true, not-false}
use Rattle.message4.proofs.PartLaws4.{wire_least, name_absent, name_other, name_wire}
use Rattle.message4.proofs.name_in.Goals as goal

pub returns-then-not-client_fqdn : goal.returns-then-not-client_fqdn
returns-then-not-client_fqdn c =
    c.no_name.ensures ∙ name_absent c.args.message.now c.args.client_fqdn (not-true c.args.client_fqdn.found c.if-not-client_fqdn.true)

pub has_wire_name-requires : goal.has_wire_name-requires
has_wire_name-requires c =
    let found = not-false c.args.client_fqdn.found c.if-not-client_fqdn.false in
    c.requires found

pub returns-then-not-has_wire_name : goal.returns-then-not-has_wire_name
returns-then-not-has_wire_name c =
    let found = not-false c.args.client_fqdn.found c.if-not-client_fqdn.false in
    let other = sym c.has_wire_name.ensures ∙ c.if-not-has_wire_name.true in
    c.no_name-then-not-has_wire_name.ensures ∙ name_other c.args.message.now c.args.client_fqdn found other

pub overflow_add-result : goal.overflow_add-result
overflow_add-result c =
    let found = not-false c.args.client_fqdn.found c.if-not-client_fqdn.false in
    let wire = sym c.has_wire_name.ensures ∙ c.if-not-has_wire_name.false in
    omega (arith, c.requires found, wire_least c.args.message.now c.args.client_fqdn.part (c.requires found) wire)

pub overflow_sub-result : goal.overflow_sub-result
overflow_sub-result c =
    let found = not-false c.args.client_fqdn.found c.if-not-client_fqdn.false in
    let wire = sym c.has_wire_name.ensures ∙ c.if-not-has_wire_name.false in
    wire_least c.args.message.now c.args.client_fqdn.part (c.requires found) wire

pub returns : goal.returns
returns c =
    let found = not-false c.args.client_fqdn.found c.if-not-client_fqdn.false in
    let wire = sym c.has_wire_name.ensures ∙ c.if-not-has_wire_name.false in
    name_wire c.args.message.now c.args.client_fqdn found (c.requires found) wire
