-- Refusal 9's test, of a name and of its canonical form. Assumes nothing.
use Prim.Native.Nat.{ℕ, ◌≤◌}
use mathlib.Core.Bool.{Bool}
use mathlib.Core.Path.{◌≡◌, sym, ap, subst, ◌∙◌}
use mathlib.Core.List.{List}
use native.Mathlib.Omega.{arith}
use lib.ListN.{length}
use Rattle.base.specs.Logic.{Decides}
use Rattle.base.proofs.Tests.{decides_as}
use Rattle.name.specs.Name.{Proper, canonical, Within}
use Rattle.name.proofs.NameLaws.{length_canonical, canonical_again}
use Rattle.name.proofs.Theorems.{canonical_form}
use Rattle.name.proofs.WireLaws.{proper_raised}
use Rattle.name.proofs.WithinLaws.{within_proper}
use Rattle.update.specs.Calls.{InZone}
use Rattle.update.specs.Promise.{Placed}

module _ (n o z : List ℕ) (e : o ≡ canonical n) (two : 2 ≤ length z) where
  placed_in : Placed o z → InZone n z
  placed_in p =
      record {
        name = proper_raised n (subst Proper e p.proper);
        zone = proper_raised z (within_proper o (canonical z) p.proper (omega (arith, two, length_canonical z)) p.within);
        within = subst (λ (c : List ℕ). Within c (canonical z)) e p.within;
      }

  in_placed : InZone n z → Placed o z
  in_placed h =
      record {
        proper = subst Proper (sym e) (canonical_form n h.name).proper;
        lower = ap canonical e ∙ canonical_again n ∙ sym e;
        within = subst (λ (c : List ℕ). Within c (canonical z)) (sym e) h.within;
      }

  pub in_zone_by : (r : Bool) → Decides r (Placed o z) → Decides r (InZone n z)
  in_zone_by r = decides_as placed_in in_placed
