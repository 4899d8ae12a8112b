-- What the reader of a level and the walker of its options answer, by what was tested on the way. Assumes nothing.
use Prim.Native.Nat.{suc, ◌+◌, ◌-◌, ◌≤◌}
use mathlib.Core.Path.{◌≡◌, refl, sym, ◌∙◌}
use native.Mathlib.Nat.{pos_of_ne-zero}
use native.Mathlib.Omega.{arith}
use lib.Arith.{lt_of_le-ne}
use lib.ListN.{get_or}
use borrow.Author.Tests.{ne_eqb, not-true, not-false}
use Rattle.message6.proofs.ReadLaws6.{level_empty, level_other, request_short, request_options, relay_ninth, relay_short, relay_options}
use Rattle.message6.proofs.WalkLaws6.{walked_malformed, walked_client, walked_nothing, walked_twice, walked_inside, name_until, inner_from, inner_until}
use Rattle.message6.proofs.+read_level_walk_options.Goals as goal

-- ---- the reader

pub read_level-returns-then-start-end : goal.read_level-returns-then-start-end
read_level-returns-then-start-end t c =
    let a = c.args in
    c.refused.ensures ∙ level_empty a.message.now a.start a.end a.relays (omega (arith, c.if-start-end.true))

pub read_level-returns-then-end-start-lt-HEADER : goal.read_level-returns-then-end-start-lt-HEADER
read_level-returns-then-end-start-lt-HEADER t c =
    let a = c.args in
    let m = a.message.now in
    let more = lt_of_le-ne c.requires.0 c.if-start-end.false in
    let request = sym c.is_request_type.ensures ∙ c.if-is_request_type.true in
    c.refused-then-end-start-lt-HEADER.ensures ∙ request_short m a.start a.end a.relays c.requires.1 more (get_or m a.start 0) refl request
    (omega (arith, more, c.if-end-start-lt-HEADER.true))

pub read_level-returns-then-is_request_type : goal.read_level-returns-then-is_request_type
read_level-returns-then-is_request_type t c =
    let a = c.args in
    let m = a.message.now in
    let more = lt_of_le-ne c.requires.0 c.if-start-end.false in
    let request = sym c.is_request_type.ensures ∙ c.if-is_request_type.true in
    request_options m a.start a.end a.relays c.requires.1 more (get_or m a.start 0) refl request a.relays
    c.walk_options.result (omega (arith, more, c.if-end-start-lt-HEADER.false)) c.walk_options.ensures

pub read_level-returns-then-kind-ne-RELAY_FORWARD : goal.read_level-returns-then-kind-ne-RELAY_FORWARD
read_level-returns-then-kind-ne-RELAY_FORWARD t c =
    let a = c.args in
    let m = a.message.now in
    let more = lt_of_le-ne c.requires.0 c.if-start-end.false in
    let kind = get_or m a.start 0 in
    let request = sym c.is_request_type.ensures ∙ c.if-is_request_type.false in
    c.refused-then-kind-ne-RELAY_FORWARD.ensures ∙ level_other m a.start a.end a.relays c.requires.1 more kind refl request
    (ne_eqb kind 12 c.if-kind-ne-RELAY_FORWARD.true)

pub read_level-returns-then-relays-eq0 : goal.read_level-returns-then-relays-eq0
read_level-returns-then-relays-eq0 t c =
    let a = c.args in
    let more = lt_of_le-ne c.requires.0 c.if-start-end.false in
    c.refused-then-relays-eq0.ensures ∙ relay_ninth a.message.now a.start a.end a.relays c.requires.1 more c.if-kind-ne-RELAY_FORWARD.false c.if-relays-eq0.true

pub read_level-returns-then-end-start-lt-RELAY_HEADER : goal.read_level-returns-then-end-start-lt-RELAY_HEADER
read_level-returns-then-end-start-lt-RELAY_HEADER t c =
    let a = c.args in
    let more = lt_of_le-ne c.requires.0 c.if-start-end.false in
    let one_more : a.relays ≡ suc (a.relays - 1) = omega (arith, pos_of_ne-zero c.if-relays-eq0.false) in
    c.refused-then-end-start-lt-RELAY_HEADER.ensures ∙ relay_short a.message.now a.start a.end a.relays c.requires.1 more c.if-kind-ne-RELAY_FORWARD.false
    (a.relays - 1) one_more (omega (arith, more, c.if-end-start-lt-RELAY_HEADER.true))

pub read_level-returns : goal.read_level-returns
read_level-returns t c =
    let a = c.args in
    let more = lt_of_le-ne c.requires.0 c.if-start-end.false in
    let one_more : a.relays ≡ suc (a.relays - 1) = omega (arith, pos_of_ne-zero c.if-relays-eq0.false) in
    let fits : a.start + 34 ≤ a.end = omega (arith, more, c.if-end-start-lt-RELAY_HEADER.false) in
    relay_options a.message.now a.start a.end a.relays c.requires.1 more c.if-kind-ne-RELAY_FORWARD.false (a.relays - 1)
    c.walk_options-2.result one_more fits c.walk_options-2.ensures

-- ---- the walker

pub walk_options-returns-then-not-level : goal.walk_options-returns-then-not-level
walk_options-returns-then-not-level t c =
    let a = c.args in
    let p = c.pass_options-level in
    c.refused.ensures ∙ walked_malformed a.message.now a.start a.end p.result p.ensures a.relay a.relays (not-true p.result.filled c.if-not-level.true)

pub walk_options-judge-requires : goal.walk_options-judge-requires
walk_options-judge-requires t c =
    let a = c.args in
    let p = c.pass_options-level in
    let filled = not-false p.result.filled c.if-not-level.false in
    omega (arith, name_until a.message.now a.start a.end p.result p.ensures c.requires.1 filled, c.requires, c.well_formed.0.0)

pub walk_options-returns-then-not-relay : goal.walk_options-returns-then-not-relay
walk_options-returns-then-not-relay t c =
    let a = c.args in
    let p = c.pass_options-level in
    let filled = not-false p.result.filled c.if-not-level.false in
    rw c.if-not-relay.true
    (walked_client a.message.now a.start a.end p.result p.ensures c.requires.1 filled a.relays c.judge.result c.judge.ensures)

pub walk_options-returns-then-not-relayed : goal.walk_options-returns-then-not-relayed
walk_options-returns-then-not-relayed t c =
    let a = c.args in
    let p = c.pass_options-level in
    let filled = not-false p.result.filled c.if-not-level.false in
    c.refused-then-not-relayed.ensures ∙ rw c.if-not-relay.false (walked_nothing a.message.now a.start a.end p.result p.ensures c.requires.1 filled a.relays
    (not-true p.result.relayed.found c.if-not-relayed.true))

pub walk_options-returns-then-relayed : goal.walk_options-returns-then-relayed
walk_options-returns-then-relayed t c =
    let a = c.args in
    let p = c.pass_options-level in
    let filled = not-false p.result.filled c.if-not-level.false in
    c.refused-then-relayed.ensures ∙ rw c.if-not-relay.false (walked_twice a.message.now a.start a.end p.result p.ensures c.requires.1 filled a.relays c.if-relayed.true)

pub walk_options-overflow_add-inner : goal.walk_options-overflow_add-inner
walk_options-overflow_add-inner t c =
    let a = c.args in
    let p = c.pass_options-level in
    let filled = not-false p.result.filled c.if-not-level.false in
    let found = not-false p.result.relayed.found c.if-not-relayed.false in
    let until = inner_until a.message.now a.start a.end p.result p.ensures c.requires.1 filled found c.if-relayed.false in
    record { fits = omega (arith, until, c.requires, c.well_formed.0.0) }

pub walk_options-read_level-requires : goal.walk_options-read_level-requires
walk_options-read_level-requires t c =
    let a = c.args in
    let p = c.pass_options-level in
    let filled = not-false p.result.filled c.if-not-level.false in
    let found = not-false p.result.relayed.found c.if-not-relayed.false in
    let from = inner_from a.message.now a.start a.end p.result p.ensures c.requires.1 filled found c.if-relayed.false in
    let until = inner_until a.message.now a.start a.end p.result p.ensures c.requires.1 filled found c.if-relayed.false in
    (omega (arith, from, until, c.decreases), (omega arith, omega (arith, until, c.requires)))

pub walk_options-returns : goal.walk_options-returns
walk_options-returns t c =
    let a = c.args in
    let p = c.pass_options-level in
    let filled = not-false p.result.filled c.if-not-level.false in
    let found = not-false p.result.relayed.found c.if-not-relayed.false in
    rw c.if-not-relay.false (walked_inside a.message.now a.start a.end p.result p.ensures c.requires.1 filled found c.if-relayed.false a.relays
    c.read_level.result c.read_level.ensures)
