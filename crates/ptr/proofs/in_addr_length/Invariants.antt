use Prim.Native.Nat.{◌+◌, ◌*◌, ◌≤◌}
use mathlib.Core.Path.{◌≡◌}
use lib.ListN.{length, take}
use Rattle.slots.specs.declared.Family.TheVariants.{V4}
use Rattle.ptr.specs.Ptr.{ptr_name}
use Rattle.ptr.proofs.in_addr_length.Given as goal

abbrev pub invariant-loop-b : goal.invariant-loop-b
invariant-loop-b l = (l.n ≡ length (ptr_name V4 (take l.b-index l.address))) × (l.n ≤ 14 + 4 * l.b-index)
