use Prim.Native.Nat.{ℕ}
use mathlib.Core.Path.{ap, ◌∙◌}
use mathlib.Core.List.{List, ◌∷◌, ◌++◌}
use native.Mathlib.Omega.{arith}
use Rattle.base.specs.Bytes.{big_endian, overlay}
use Rattle.dhcid.specs.Dhcid.{dhcid}
use Rattle.dhcid.proofs.WritingLaws.{identifier_length, under_long, under_no_room, under_written}
use borrow.Author.Rules.{rules}
use Rattle.dhcid.proofs.put_under.Goals as goal

pub returns-then-request-name-gt-MOST_HASHED : goal.returns-then-request-name-gt-MOST_HASHED
returns-then-request-name-gt-MOST_HASHED c =
    let start = c.args in
    let m = start.message.now in
    let long = identifier_length m start.request c.requires.head c.requires.rest in
    under_long m start.request start.name.now start.out.now (omega arith)

pub returns-then-out-lt-LENGTH : goal.returns-then-out-lt-LENGTH
returns-then-out-lt-LENGTH c =
    let start = c.args in
    let m = start.message.now in
    let long = identifier_length m start.request c.requires.head c.requires.rest in
    under_no_room m start.request start.name.now start.out.now (omega arith) c.if-out-lt-LENGTH.true

pub returns : goal.returns
unfolding dhcid
returns c =
    let start = c.args in
    let m = start.message.now in
    let long = identifier_length m start.request c.requires.head c.requires.rest in
    let few = c.if-request-name-gt-MOST_HASHED.false in
    under_written m start.request start.name.now start.out.now (omega (arith, few, long)) c.if-out-lt-LENGTH.false _
    (c.put_rdata.ensures ∙ ap (λ (d : List ℕ). overlay start.out.now 0 (big_endian 2 start.request.id_type ++ 1 ∷ d)) c.digest_of.ensures)
