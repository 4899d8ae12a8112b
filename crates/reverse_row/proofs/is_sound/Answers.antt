use borrow.Author.Rules.{rules}
use borrow.Author.Tests.{not-true, not-false}
use Rattle.base.proofs.Tests.{no_by}
use Rattle.reverse.specs.Sizes.{most_addresses}
use Rattle.reverse.proofs.SideLaws.{length_side}
use Rattle.reverse_row.proofs.is_sound.Goals as goal

pub returns-then-reverse-ne-SIZE : goal.returns-then-reverse-ne-SIZE
returns-then-reverse-ne-SIZE c = no_by (λ s. c.if-reverse-ne-SIZE.true (length_side most_addresses s.names _ s.slots))

pub returns-then-not-are_slots : goal.returns-then-not-are_slots
returns-then-not-are_slots c = no_by (λ s. c.are_slots.ensures.if_false c.if-not-are_slots.true (s.names, s.slots))

pub no_address_twice-requires : goal.no_address_twice-requires
no_address_twice-requires c = c.are_slots.ensures.if_true c.if-not-are_slots.false

pub returns : goal.returns
returns c =
    let slots = c.are_slots in
    let rs = slots.ensures.if_true c.if-not-are_slots.false in
    let d = c.no_address_twice.ensures in
    record {
      if_true = λ yes-all. record { names = rs.0; slots = rs.1; single = (d rs.0 rs.1).if_true yes-all };
      if_false = λ none s. (d s.names s.slots).if_false none s.single;
    }
