-- The key of a slot, as a part of the bytes and as it is written. Assumes nothing.
use Prim.Native.Nat.{ℕ, suc, ◌+◌, ◌-◌, ◌*◌}
use mathlib.Core.Path.{◌≡◌, ap, ◌∙◌}
use mathlib.Core.List.{List, ◌∷◌, ◌++◌}
use native.Mathlib.Omega.{arith}
use lib.ListN.{length, take, drop, replicate}
use Rattle.base.specs.Bytes.{overlay}
use Rattle.base.proofs.Bytes.{drop_replicate}
use Rattle.reverse.specs.Promise.{key_at}
use Rattle.reverse.specs.Sizes.{key_size, reverse_slot_size}

-- the part that is looked at is the key
pub key_part : (b : List ℕ) (i : ℕ) → key_at b i ≡ take (reverse_slot_size * i + key_size - reverse_slot_size * i) (drop (reverse_slot_size * i) b)
unfolding key_at
key_part b i = let size : key_size ≡ reverse_slot_size * i + key_size - reverse_slot_size * i = omega arith in ap (λ (n : ℕ). take n (drop (reverse_slot_size * i) b)) size

-- a byte, and an address written over the zeros behind it
pub key_put : (k v : ℕ) (x : List ℕ) → overlay (v ∷ replicate k 0) 1 x ≡ v ∷ x ++ replicate (k - length x) 0
unfolding overlay
key_put k v x =
    let behind : 1 + length x ≡ suc (length x) = omega arith in
    ap (λ (t : List ℕ). v ∷ x ++ t) (ap (λ (j : ℕ). drop j (v ∷ replicate k 0)) behind ∙ drop_replicate (length x) k 0)
