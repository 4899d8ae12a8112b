use mathlib.Core.Path.{ap, ◌∙◌}
use native.Mathlib.Omega.{arith}
use borrow.Author.Rules.{rules}
use lib.ListN.{length}
use Rattle.base.specs.declared.Answer.TheVariants.{Accepted}
use Rattle.base.specs.Bytes.{overlay}
use Rattle.writer.specs.Line.{Writable, line}
use Rattle.writer.proofs.PlaceLaws.{place_line, place_occupied, line_short}
use Rattle.writer.proofs.RoomLaws.{no_room_answer, no_room_bytes, room_answer, room_bytes}
use Rattle.writer.proofs.put_record.Goals as goal

pub returns-then-to-at : goal.returns-then-to-at
returns-then-to-at c =
    let at = c.args.at in
    let to = c.args.to.now in
    record { value = λ r h. c.no_room.ensures ∙ no_room_answer (line r) at to (omega arith); to_after = λ r h. no_room_bytes (line r) at to (omega arith) }

pub returns-then-to-at-2 : goal.returns-then-to-at-2
returns-then-to-at-2 c =
    let at = c.args.at in
    let to = c.args.to.now in
    let long = c.line_length-n.ensures in record { value = λ r h. c.no_room-then-to-at-2.ensures ∙ no_room_answer (line r) at to (omega (arith, long r h)); to_after = λ r h. no_room_bytes (line r) at to (omega (arith, long r h)) }

pub put_line-requires : goal.put_line-requires
unfolding Writable
put_line-requires c =
    let p = c.args.place in
    let r = c.requires.0 in
    let h = c.requires.1 in
    record { bound = (place_occupied p r h).some; place_in_bounds = omega (arith, c.line_length-n.ensures r h, ap length (place_line p r h)) }

pub overflow_cast-result : goal.overflow_cast-result
unfolding Writable
overflow_cast-result c =
    let r = c.requires.0 in
    let h = c.requires.1 in
    omega (arith, c.line_length-n.ensures r h, line_short r h.well_formed)

pub returns : goal.returns
returns c =
    let at = c.args.at in
    let to = c.args.to.now in
    let long = c.line_length-n.ensures in record { value = λ r h. ap Accepted (long r h) ∙ room_answer (line r) at to (omega (arith, long r h)); to_after = λ r h. c.put_line.ensures ∙ ap (overlay to at) (place_line c.args.place r h) ∙ room_bytes (line r) at to (omega (arith, long r h)) }
