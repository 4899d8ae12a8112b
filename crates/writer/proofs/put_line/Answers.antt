use Prim.Native.Nat.{◌≤◌}
use mathlib.Core.Path.{◌≡◌}
use native.Mathlib.Omega.{arith}
use borrow.Author.Rules.{rules}
use lib.ListN.{length, length-take}
use lib.Seq.{length-take-le}
use Rattle.writer.proofs.PartLaws.{length_rest, length_line, line_written}
use Rattle.writer.proofs.put_line.Goals as goal

pub slice_bounds-put_text-end : goal.slice_bounds-put_text-end
slice_bounds-put_text-end c =
    let owner : length c.args.place.owner ≡ 255 = search rules in
    simp length-take (omega arith)

pub put_text-requires : goal.put_text-requires
put_text-requires c =
    let p = c.args.place in
    let owner : length p.owner ≡ 255 = search rules in
    let within : p.owner_len ≤ length p.owner = omega arith in
    omega (arith, length_line p c.requires.bound within, length_rest p.rtype p.rdata, length-take-le p.owner_len p.owner within)

pub put_rest-requires : goal.put_rest-requires
put_rest-requires c =
    let p = c.args.place in
    let owner : length p.owner ≡ 255 = search rules in
    let within : p.owner_len ≤ length p.owner = omega arith in
    record { rdata_len = search rules; rdata_in_bounds = omega (arith, c.put_text.auto.to, length_line p c.requires.bound within) }

pub returns : goal.returns
returns c =
    let p = c.args.place in
    let owner : length p.owner ≡ 255 = search rules in
    let within : p.owner_len ≤ length p.owner = omega arith in
    line_written p c.requires.bound within c.args.to.now _ _ c.args.at _ (omega arith) c.put_text.ensures (omega arith) c.put_rest.ensures
