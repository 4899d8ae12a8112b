-- Names compared a chunk at a time: specs/NotInLabel.antt's Agree. Assumes nothing.
use Prim.Native.Nat.{ℕ, ◌≤◌}
use mathlib.Core.Path.{◌≡◌, sym, ap, ◌∙◌}
use mathlib.Core.List.{List}
use native.Mathlib.Omega.{arith}
use lib.ListN.{length, get_or}
use lib.Seq.{ext_get_or}
use Rattle.name.specs.Name.{canonical}
use Rattle.name.specs.NotInLabel.{Agree}
use Rattle.name.proofs.NameLaws.{length_canonical, get_or_canonical}

module _ (n m : List ℕ) where
  -- the same name agrees everywhere
  pub agree_same : canonical n ≡ m → (from to : ℕ) → Agree n m from to
  agree_same e from to j low high = sym (get_or_canonical n j) ∙ ap (λ (l : List ℕ). get_or l j 0) e

  pub agree_all : (i : ℕ) → Agree n m 0 i → length n ≤ i → length n ≡ length m → canonical n ≡ m
  agree_all i h all long =
      ext_get_or 0 (canonical n) m (length_canonical n ∙ long) (λ j lt. get_or_canonical n j ∙ h j (omega arith) (omega (arith, length_canonical n)))
