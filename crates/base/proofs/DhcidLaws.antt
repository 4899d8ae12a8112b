-- Laws of specs/Dhcid.antt. Assumes nothing.
use Prim.Native.Nat.{ℕ}
use mathlib.Core.Bool.{true}
use mathlib.Core.Path.{◌≡◌}
use mathlib.Core.List.{List}
use lib.Dec.{eqb}
use lib.ListN.{length}
use borrow.Author.Tests.{eqb-true}
use Rattle.base.specs.Dhcid.{well_formed}
use Rattle.base.proofs.Tests.{and_left}

pub dhcid_length : (x : List ℕ) → well_formed x ≡ true → length x ≡ 35
unfolding well_formed
dhcid_length x h = eqb-true (length x) 35 (and_left (eqb (length x) 35) _ (and_left _ _ h))
