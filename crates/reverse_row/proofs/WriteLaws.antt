-- How a slot is written: key, length, name and zeros, one after the other, and where it comes to stand. Assumes nothing.
use Prim.Native.Nat.{ℕ, ◌+◌, ◌-◌, ◌≤◌}
use mathlib.Core.Path.{◌≡◌, sym, ap, ap₂, ◌∙◌}
use mathlib.Core.List.{List, [], ◌∷◌, ◌++◌, append_assoc}
use native.Mathlib.Omega.{arith}
use lib.ListN.{length, take, drop, set, replicate, length-append, length-replicate}
use lib.Seq.{drop-drop}
use Rattle.base.specs.Bytes.{overlay, padded}
use Rattle.base.proofs.Bytes.{length_overlay, overlay_append, overlay_to_end, set_overlay}
use Rattle.name.specs.Name.{canonical}
use Rattle.name.proofs.NameLaws.{length_canonical}
use Rattle.slots.specs.Entry.{address_size}
use Rattle.slots.specs.declared.Family.{Family}
use Rattle.reverse.specs.Entry.{entry_at}
use Rattle.reverse.specs.Form.{key_bytes, slot_bytes}
use Rattle.reverse.specs.Sizes.{key_size, reverse_slot_size}
use Rattle.reverse.proofs.SlotLaws.{length_key}

-- ---- the parts

module _ (s k n z : List ℕ) (v : ℕ) (long : length s ≡ reverse_slot_size) (key : length k ≡ key_size) (rest : 18 + (length n + length z) ≡ reverse_slot_size) where
  length_put : set (overlay s 0 k) 17 v ≡ overlay s 0 (k ++ v ∷ [])
  length_put =
      let behind : 17 ≡ 0 + length k = omega arith in
      set_overlay (overlay s 0 k) 17 v (omega (arith, length_overlay s 0 k (omega arith))) ∙ ap (λ (j : ℕ). overlay (overlay s 0 k) j (v ∷ [])) behind ∙ overlay_append s 0 k (v ∷ []) (omega arith)

  name_put : overlay (set (overlay s 0 k) 17 v) 18 n ≡ overlay s 0 (k ++ v ∷ [] ++ n)
  name_put =
      let behind : 18 ≡ 0 + length (k ++ v ∷ []) = omega (arith, length-append k (v ∷ [])) in
      ap₂ (λ (d : List ℕ) (j : ℕ). overlay d j n) length_put behind ∙ overlay_append s 0 (k ++ v ∷ []) n (omega arith)

  -- together they are all of the slot
  pub parts_put : overlay (overlay (set (overlay s 0 k) 17 v) 18 n) (18 + length n) z ≡ k ++ (v ∷ (n ++ z))
  parts_put =
      let h = k ++ v ∷ [] ++ n in
      let size : length h ≡ 18 + length n = length-append (k ++ v ∷ []) n ∙ omega (arith, length-append k (v ∷ [])) in
      let behind : 18 + length n ≡ 0 + length h = omega arith in
      ap₂ (λ (d : List ℕ) (j : ℕ). overlay d j z) name_put behind
      ∙ overlay_append s 0 h z (omega arith)
      ∙ overlay_to_end s 0 (h ++ z) (omega (arith, length-append h z))
      ∙ append_assoc (k ++ v ∷ []) n z
      ∙ append_assoc k (v ∷ []) (n ++ z)

pub slot_by_lem : (s k a m d : List ℕ) (f : Family) (x n : List ℕ) → length s ≡ reverse_slot_size → length x ≡ address_size f → length n ≤ 255 → k ≡ key_bytes f x → a ≡ overlay s 0 k
    → m ≡ overlay (set a 17 (length n)) 18 (canonical n) → d ≡ overlay m (18 + length n) (replicate (reverse_slot_size - (18 + length n)) 0) → d ≡ slot_bytes (entry_at f x (canonical n))
unfolding slot_bytes padded
slot_by_lem s k a m d f x n long size short key first named zeros =
    let same = length_canonical n in
    let left = reverse_slot_size - (18 + length n) in
    let less : left ≡ 255 - length (canonical n) = omega arith in
    let behind : 18 + length n ≡ 18 + length (canonical n) = omega arith in
    zeros
    ∙ ap₂ (λ (e : List ℕ) (j : ℕ). overlay e j (replicate left 0)) (named ∙ ap (λ (e : List ℕ). overlay (set e 17 (length n)) 18 (canonical n)) first) behind
    ∙ parts_put s k (canonical n) (replicate left 0) (length n) long (ap length key ∙ length_key f x size) (omega (arith, length-replicate {A = ℕ} left 0))
    ∙ ap₂ (λ (u : List ℕ) (w : List ℕ). u ++ w) key (ap₂ (λ (v j : ℕ). v ∷ (canonical n ++ replicate j 0)) (sym same) less)

-- ---- where it stands: all of the bytes, once the part that was lent has come back

pub put_in : (b : List ℕ) (at : ℕ) (s : List ℕ) → take at b ++ (s ++ drop (at + reverse_slot_size - at) (drop at b)) ≡ take at b ++ s ++ drop (at + reverse_slot_size) b
put_in b at s =
    let size : at + reverse_slot_size - at ≡ reverse_slot_size = omega arith in
    ap (λ (r : List ℕ). take at b ++ (s ++ r)) (ap (λ (j : ℕ). drop j (drop at b)) size ∙ drop-drop reverse_slot_size at b)
    ∙ sym (append_assoc (take at b) s (drop (at + reverse_slot_size) b))
