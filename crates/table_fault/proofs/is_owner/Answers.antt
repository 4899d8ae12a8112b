use Prim.Native.Nat.{◌+◌, ◌-◌}
use native.Mathlib.Omega.{arith}
use lib.ListN.{length, drop, length-take, length-drop}
use Rattle.name.proofs.WireLaws.{proper_some}
use Rattle.table_fault.proofs.WordLaws.{owner_decided}
use Rattle.table_fault.proofs.is_owner.Goals as goal

pub overflow_sub-end : goal.overflow_sub-end
overflow_sub-end c = omega (arith, proper_some c.args.name.now c.requires.0)

pub overflow_add-end : goal.overflow_add-end
overflow_add-end c = omega (arith, c.requires.1)

pub slice_bounds-is_text_of-end : goal.slice_bounds-is_text_of-end
slice_bounds-is_text_of-end c = omega (arith, c.requires.1, proper_some c.args.name.now c.requires.0)

pub is_text_of-requires : goal.is_text_of-requires
is_text_of-requires c = simp (length-take, length-drop) (omega (arith, c.requires.1, proper_some c.args.name.now c.requires.0))

pub returns : goal.returns
returns c =
    let t = c.args.text.now in
    let n = c.args.name.now in
    λ m h long.
    owner_decided (drop c.args.at t) m n h (c.args.at + (length n - 1) - c.args.at) c.is_text_of.result c.requires.0 long (omega (arith, proper_some n c.requires.0)) c.is_text_of.ensures
