use Prim.Native.Nat.{◌≤◌}
use mathlib.Core.Path.{◌≡◌}
use lib.ListN.{length, drop}
use Rattle.name.specs.ProperTest.{accepts}
use Rattle.name.proofs.wire.is_proper.Given as goal

abbrev pub invariant-loop-i : goal.invariant-loop-i
invariant-loop-i l = (l.i ≤ length l.name) × (accepts 0 l.name ≡ accepts l.left (drop l.i l.name))
