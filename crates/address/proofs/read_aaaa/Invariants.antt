use Prim.Native.Nat.{◌*◌}
use mathlib.Core.Path.{◌≡◌}
use lib.ListN.{length, take}
use Rattle.base.specs.Bytes.{in_bytes}
use Rattle.address.proofs.read_aaaa.Given as goal

abbrev pub invariant-loop-i : goal.invariant-loop-i
invariant-loop-i l = (length l.bytes ≡ 16) × (take (2 * l.i) l.bytes ≡ in_bytes 2 (take l.i l.values))
