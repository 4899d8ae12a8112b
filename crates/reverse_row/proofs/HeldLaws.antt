-- The name in a slot, read by its length: the entry's name, and none in an unused slot. Assumes nothing.
use Prim.Native.Nat.{ℕ, ◌+◌, ◌-◌}
use mathlib.Core.Path.{◌≡◌, refl, sym, ap, ◌∙◌}
use mathlib.Core.List.{List, []}
use native.Mathlib.Omega.{arith}
use lib.ListN.{length, take, drop, get_or, replicate, get_or-replicate}
use lib.Seq.{take_at, take-take, drop-drop, get_or-take, get_or-drop}
use Rattle.base.specs.Bytes.{padded}
use Rattle.base.proofs.Lists.{drop_take}
use Rattle.name.proofs.WireLaws.{proper_short}
use Rattle.reverse.specs.Entry.{ReverseEntry}
use Rattle.reverse.specs.Form.{slot_bytes, WellFormed}
use Rattle.reverse.specs.Sizes.{reverse_slot_size}
use Rattle.reverse.proofs.SlotLaws.{slot_name}

-- so many bytes behind the length as it says
abbrev pub name_in : List ℕ → ℕ → List ℕ
name_in b at = take (at + 18 + get_or b (at + 17) 0 - (at + 18)) (drop (at + 18) b)

module _ (b : List ℕ) (at : ℕ) where
  size_byte : get_or b (at + 17) 0 ≡ get_or (take reverse_slot_size (drop at b)) 17 0
  size_byte = sym (get_or-drop at b 17 0) ∙ sym (get_or-take reverse_slot_size (drop at b) 17 0 (omega arith))

  pub held_name : (r : ReverseEntry) → WellFormed r → take reverse_slot_size (drop at b) ≡ slot_bytes r → name_in b at ≡ r.name
  unfolding padded
  held_name r w there =
      let n = r.name in
      let byte : get_or b (at + 17) 0 ≡ length n = size_byte ∙ ap (λ (t : List ℕ). get_or t 17 0) there ∙ sym (get_or-drop 17 (slot_bytes r) 0 0) ∙ ap (λ (t : List ℕ). get_or t 0 0) (slot_name r w) in
      let size : at + 18 + get_or b (at + 17) 0 - (at + 18) ≡ length n = omega (arith, byte) in
      let name : take 255 (drop (at + 18) b) ≡ padded n =
      ap (take 255) (sym (drop-drop 18 at b)) ∙ sym (drop_take 18 reverse_slot_size (drop at b)) ∙ ap (drop 18) there ∙ sym (drop-drop 1 17 (slot_bytes r)) ∙ ap (drop 1) (slot_name r w) in
      ap (λ (j : ℕ). take j (drop (at + 18) b)) size ∙ sym (take-take (length n) 255 (drop (at + 18) b) (proper_short n w.proper)) ∙ ap (take (length n)) name
      ∙ take_at n (replicate (255 - length n) 0) (length n) refl

  pub no_name : take reverse_slot_size (drop at b) ≡ replicate reverse_slot_size 0 → name_in b at ≡ []
  no_name there =
      let byte : get_or b (at + 17) 0 ≡ 0 = size_byte ∙ ap (λ (t : List ℕ). get_or t 17 0) there ∙ get_or-replicate reverse_slot_size 17 0 0 (omega arith) in
      let size : at + 18 + get_or b (at + 17) 0 - (at + 18) ≡ 0 = omega (arith, byte) in
      ap (λ (j : ℕ). take j (drop (at + 18) b)) size
