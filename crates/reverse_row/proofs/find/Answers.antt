use mathlib.Core.Path.{sym}
use native.Mathlib.Omega.{arith}
use borrow.Author.Rules.{rules}
use Rattle.reverse.specs.Sizes.{most_addresses}
use Rattle.reverse.proofs.SideLaws.{length_side, first_key_place}
use Rattle.reverse_row.proofs.find.Goals as goal

pub first_with-requires : goal.first_with-requires
first_with-requires c =
    let p = c.requires.0 in
    (length_side most_addresses p.0 _ p.1, search rules, omega (arith, c.count-used.ensures p.0 p.1, p.1.room))

pub returns : goal.returns
returns c = λ rs h.
    let b = c.args.reverse.now in
    let r = c.first_with.result in
    let f = c.args.family in
    let x = c.args.address.now in
    first_key_place most_addresses rs b h f x c.requires.1 r (rw (sym c.key_of-sought.ensures, sym (c.count-used.ensures rs h)) c.first_with.ensures)
