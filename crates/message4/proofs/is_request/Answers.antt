use mathlib.Core.Path.{sym}
use native.Mathlib.Nat.{le_of_eq}
use borrow.Author.Tests.{not-true, not-false}
use Rattle.message4.proofs.PartLaws4.{request_absent, request_long, request_first}
use Rattle.message4.proofs.is_request.Goals as goal

pub returns-then-not-message_type : goal.returns-then-not-message_type
returns-then-not-message_type c =
    request_absent c.args.message.now c.args.message_type (not-true c.args.message_type.found c.if-not-message_type.true)

pub returns-then-part-ne1 : goal.returns-then-part-ne1
returns-then-part-ne1 c =
    let found = not-false c.args.message_type.found c.if-not-message_type.false in
    request_long c.args.message.now c.args.message_type found (c.requires found) c.if-part-ne1.true

pub first_byte-requires : goal.first_byte-requires
first_byte-requires c =
    (c.requires (not-false c.args.message_type.found c.if-not-message_type.false), le_of_eq (sym c.if-part-ne1.false))

pub returns : goal.returns
returns c =
    let found = not-false c.args.message_type.found c.if-not-message_type.false in
    request_first c.args.message.now c.args.message_type found (c.requires found) c.if-part-ne1.false c.first_byte.result c.first_byte.ensures
