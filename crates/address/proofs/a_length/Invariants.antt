use Prim.Native.Nat.{◌*◌, ◌≤◌}
use mathlib.Core.Path.{◌≡◌}
use lib.ListN.{take}
use Rattle.text.proofs.PartLaws.{total}
use Rattle.address.proofs.WrittenLaws.{octet_parts}
use Rattle.address.proofs.a_length.Given as goal

abbrev pub invariant-loop-b : goal.invariant-loop-b
invariant-loop-b l = (l.n ≡ total (take l.b-index (octet_parts l.bytes))) × (l.n ≤ 4 * l.b-index)
