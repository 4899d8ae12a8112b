use native.Mathlib.Omega.{arith}
use Rattle.writer.specs.Line.{Writable}
use Rattle.writer.proofs.PartLaws.{rest_most}
use Rattle.writer.proofs.PlaceLaws.{place_occupied, place_length}
use borrow.Author.Rules.{rules}
use Rattle.writer.proofs.line_length.Goals as goal

pub overflow_sub-result : goal.overflow_sub-result
unfolding Writable
overflow_sub-result c = omega (arith, (place_occupied c.args.place c.requires.0 c.requires.1).some)

pub overflow_add-result : goal.overflow_add-result
unfolding Writable
overflow_add-result c =
    let p = c.args.place in
    omega (arith, c.rest_length.ensures, rest_most p.rtype p.rdata (place_occupied p c.requires.0 c.requires.1).long)

pub returns : goal.returns
returns c = λ r h. omega (arith, c.rest_length.ensures, place_length c.args.place r h)
