use Prim.Native.Nat.{◌≤◌}
use mathlib.Core.Path.{◌≡◌}
use native.Mathlib.Omega.{arith}
use lib.ListN.{length, length-take}
use lib.Seq.{length-take-le}
use borrow.Author.Rules.{rules}
use Rattle.writer.specs.Line.{Writable}
use Rattle.writer.proofs.PlaceLaws.{place_occupied}
use Rattle.load_check.proofs.HeadLaws.{place_head}
use Rattle.load_check.proofs.put_head.Goals as goal

pub slice_bounds-put_text-end : goal.slice_bounds-put_text-end
slice_bounds-put_text-end c =
    let owner : length c.args.place.owner ≡ 255 = search rules in
    simp length-take (omega arith)

pub put_text-requires : goal.put_text-requires
put_text-requires c =
    let p = c.args.place in
    let owner : length p.owner ≡ 255 = search rules in
    let within : p.owner_len ≤ length p.owner = omega arith in
    omega (arith, c.requires.longest_head_in_bounds, length-take-le p.owner_len p.owner within)

pub overflow_sub-n : goal.overflow_sub-n
unfolding Writable
overflow_sub-n c =
    omega (arith, (place_occupied c.args.place c.requires.writable.0 c.requires.writable.1).some)

pub returns : goal.returns
returns c = λ rr h.
    place_head c.args.place rr h _ _ _ _ c.requires.longest_head_in_bounds c.put_text.ensures c.put_type.ensures
