-- Laws on a sealed block. Assumes nothing.
use Prim.Native.Nat.{ℕ, ◌+◌, ◌-◌}
use mathlib.Core.Bool.{Bool, true, false, true≢false}
use mathlib.Core.Path.{◌≡◌, refl, sym, ap, ap₂, ◌∙◌}
use mathlib.Core.List.{List, ◌++◌}
use native.Mathlib.Omega.{arith}
use lib.ListN.{length, take, drop, length-append, length-take, length-drop, take-append-drop}
use lib.Seq.{take_at, take_all}
use Rattle.base.specs.Bytes.{eq_bytes, overlay}
use Rattle.base.specs.Logic.{Decides}
use Rattle.base.proofs.Lists.{append_split}
use Rattle.base.proofs.Bytes.{overlay_to_end}
use Rattle.base.proofs.Tests.{eq_bytes_true, eq_eq_bytes, yes_by, no_by}
use Rattle.hash.specs.Sha256.{sha256}
use Rattle.hash.proofs.Theorems.{digest_size}
use Rattle.block.specs.Sealed.{sealed, IsSealed}

pub length_sealed : (x : List ℕ) → length x ≡ 480 → length (sealed x) ≡ 512
unfolding sealed
length_sealed x e = length-append x (sha256 x) ∙ ap₂ ◌+◌ e (digest_size x)

-- a sealed block determines what it seals
pub sealed_body : (x : List ℕ) → length x ≡ 480 → take 480 (sealed x) ≡ x
unfolding sealed
sealed_body x e = take_at x (sha256 x) 480 e

pub one_sealed : (x y : List ℕ) → length x ≡ 480 → length y ≡ 480 → sealed x ≡ sealed y → x ≡ y
one_sealed x y e f s = sym (sealed_body x e) ∙ ap (take 480) s ∙ sealed_body y f

pub sealed_is_sealed : (x : List ℕ) → length x ≡ 480 → IsSealed (sealed x)
unfolding IsSealed
sealed_is_sealed x e = ap sealed (sym (sealed_body x e))

pub length_front : (b : List ℕ) → length b ≡ 512 → length (take 480 b) ≡ 480
length_front b e = simp length-take (omega (arith, e))

-- the check behind the first 480 bytes
pub check_by : (b d k : List ℕ) (r : Bool) → length b ≡ 512 → d ≡ sha256 (take 480 b) → k ≡ drop 480 b → r ≡ eq_bytes k d → Decides r (IsSealed b)
unfolding IsSealed sealed
check_by b d k r long digest part same = go r same
  where
    right : k ≡ d → b ≡ take 480 b ++ sha256 (take 480 b)
    right e = sym (take-append-drop 480 b) ∙ ap (λ (z : List ℕ). take 480 b ++ z) (sym part ∙ e ∙ digest)

    go : (q : Bool) → q ≡ eq_bytes k d → Decides q (b ≡ take 480 b ++ sha256 (take 480 b))
    go true e = yes_by (right (eq_bytes_true k d (sym e)))
    go false e = no_by (λ h. true≢false (sym (eq_eq_bytes k d (part ∙ (append_split {a = take 480 b} {b = take 480 b} refl (take-append-drop 480 b ∙ h)).1 ∙ sym digest)) ∙ sym e))

-- what stands behind the body, as the code cuts it
pub behind_body : (b : List ℕ) → take (length b - 480) (drop 480 b) ≡ drop 480 b
behind_body b = take_all (length b - 480) (drop 480 b) (simp length-drop (omega arith))

-- the check written over what was there
pub seal_by : (b d e : List ℕ) → length b ≡ 512 → d ≡ sha256 (take 480 b) → e ≡ overlay b 480 d → e ≡ sealed (take 480 b)
unfolding sealed
seal_by b d e long digest put =
    let size : length d ≡ 32 = ap length digest ∙ digest_size (take 480 b) in
    put ∙ overlay_to_end b 480 d (omega (arith, long, size)) ∙ ap (λ (z : List ℕ). take 480 b ++ z) digest
