use Prim.Native.Nat.{◌+◌, ◌-◌}
use mathlib.Core.Path.{sym, ap, ◌∙◌}
use native.Mathlib.Omega.{arith}
use borrow.Author.Tests.{not-true, not-false}
use Rattle.message.specs.declared.Part.{Part}
use Rattle.message4.specs.Message4.{hlen}
use Rattle.message4.specs.Judging4.{accepted_as}
use Rattle.message4.proofs.PartLaws4.{duid_least, no_hardware, by_hardware, by_duid, too_short, by_all}
use Rattle.message4.proofs.identify.Goals as goal

pub overflow_cast-hlen : goal.overflow_cast-hlen
overflow_cast-hlen c = omega (arith, c.type_inv.message 2)

pub returns-then-hlen-eq0 : goal.returns-then-hlen-eq0
unfolding hlen
returns-then-hlen-eq0 c =
    let absent = not-true c.args.client_id.found c.if-not-client_id.true in
    c.refused.ensures ∙ no_hardware c.args.message.now c.args.client_id c.args.name absent c.if-hlen-eq0.true

pub returns-then-not-client_id : goal.returns-then-not-client_id
unfolding hlen
returns-then-not-client_id c =
    let absent = not-true c.args.client_id.found c.if-not-client_id.true in
    c.accepted.ensures ∙ by_hardware c.args.message.now c.args.client_id c.args.name absent c.if-hlen-eq0.false

pub has_duid-requires : goal.has_duid-requires
has_duid-requires c =
    let found = not-false c.args.client_id.found c.if-not-client_id.false in
    c.requires.1 found

pub overflow_add-part : goal.overflow_add-part
overflow_add-part c =
    let found = not-false c.args.client_id.found c.if-not-client_id.false in
    let duid = sym c.has_duid.ensures ∙ c.if-has_duid.true in
    omega (arith, c.requires.1 found, duid_least c.args.message.now c.args.client_id.part (c.requires.1 found) duid)

pub overflow_sub-part : goal.overflow_sub-part
overflow_sub-part c =
    let found = not-false c.args.client_id.found c.if-not-client_id.false in
    let duid = sym c.has_duid.ensures ∙ c.if-has_duid.true in
    omega (arith, duid_least c.args.message.now c.args.client_id.part (c.requires.1 found) duid)

pub returns-then-has_duid : goal.returns-then-has_duid
returns-then-has_duid c =
    let p = c.args.client_id.part in
    let found = not-false c.args.client_id.found c.if-not-client_id.false in
    let duid = sym c.has_duid.ensures ∙ c.if-has_duid.true in
    c.accepted-then-has_duid.ensures
    ∙ ap (λ (h : Part). accepted_as (record { type = 2; head = h; rest = record { start = p.start + 5; len = p.len - 5 } }) c.args.name)
    c.no_part.ensures
    ∙ by_duid c.args.message.now c.args.client_id c.args.name found (c.requires.1 found) duid

pub returns-then-part-lt2 : goal.returns-then-part-lt2
returns-then-part-lt2 c =
    let found = not-false c.args.client_id.found c.if-not-client_id.false in
    let duid = sym c.has_duid.ensures ∙ c.if-has_duid.false in
    c.refused-then-part-lt2.ensures ∙ too_short c.args.message.now c.args.client_id c.args.name found (c.requires.1 found) duid c.if-part-lt2.true

pub returns : goal.returns
returns c =
    let found = not-false c.args.client_id.found c.if-not-client_id.false in
    let duid = sym c.has_duid.ensures ∙ c.if-has_duid.false in
    c.accepted-2.ensures
    ∙ ap (λ (h : Part). accepted_as (record { type = 1; head = h; rest = c.args.client_id.part }) c.args.name) c.no_part-2.ensures
    ∙ by_all c.args.message.now c.args.client_id c.args.name found (c.requires.1 found) duid c.if-part-lt2.false
