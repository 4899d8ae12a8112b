use Prim.Native.Nat.{◌*◌}
use mathlib.Core.Path.{◌≡◌}
use lib.ListN.{take}
use Rattle.base.specs.Bytes.{overlay}
use Rattle.dhcid_text.specs.Dhcid.{base64}
use Rattle.dhcid_text.proofs.put_base64.Given as goal

abbrev pub invariant-loop-k : goal.invariant-loop-k
invariant-loop-k l = l.to ≡ overlay l.initial.to l.at (base64 (take (3 * l.k) l.dhcid))
