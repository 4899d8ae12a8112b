use Prim.Native.Nat.{◌*◌, ◌+◌}
use mathlib.Core.Path.{ap, ◌∙◌}
use mathlib.Core.List.{◌++◌}
use native.Mathlib.Omega.{arith}
use lib.ListN.{take, drop, length-take, length-drop}
use borrow.Author.Rules.{rules}
use Rattle.name.proofs.WireLaws.{proper_short}
use Rattle.reverse.specs.Sizes.{most_addresses, reverse_slot_size}
use Rattle.reverse.proofs.SideLaws.{length_side, placed_bytes}
use Rattle.reverse_row.proofs.WriteLaws.{put_in}
use Rattle.reverse_row.proofs.put_behind.Goals as goal

pub slice_bounds-put_slot-end : goal.slice_bounds-put_slot-end
slice_bounds-put_slot-end c = let p = c.requires in omega (arith, p.1, length_side most_addresses p.0.0 _ p.0.1)

pub put_slot-requires : goal.put_slot-requires
put_slot-requires c =
    let p = c.requires in
    let long = length_side most_addresses p.0.0 _ p.0.1 in
    (simp (length-take, length-drop) (omega (arith, p.1, long)), p.2, proper_short c.args.name.now p.3)

pub returns : goal.returns
returns c = λ rs h is.
    let a = c.args in
    let b = a.reverse.now in
    let at = reverse_slot_size * a.i in
    put_in b at _ ∙ ap (λ s. take at b ++ s ++ drop (at + reverse_slot_size) b) c.put_slot.ensures
    ∙ placed_bytes most_addresses rs b h a.family a.address.now _ a.i is c.requires.1
