-- Whether a name stands, by its position: all entries come before it exactly if it does not. Assumes nothing.
use Prim.Native.Nat.{ℕ, ◌*◌, ◌≤◌}
use mathlib.Core.Path.{◌≡◌, sym, ap, subst, ◌∙◌}
use mathlib.Core.List.{List, ◌∷◌, ◌++◌}
use mathlib.Core.Option.{none, some, some-injective, none-ne-some}
use native.Mathlib.Omega.{arith}
use lib.ListN.{length, take, drop, length-append}
use Rattle.slots.specs.Entry.{Entry, position}
use Rattle.slots.specs.Form.{TableEntry, slot_bytes, IsTable}
use Rattle.slots.specs.Sizes.{slot_size}
use Rattle.slots.proofs.SplitLaws.{slot_there}
use Rattle.table.specs.Steps.{find}
use Rattle.table.proofs.FoundLaws.{Standing, standing}
use Rattle.table.proofs.SlotForLaws.{position_in}

-- no position is beyond the entries
pub index_in : (n : List ℕ) (t : List TableEntry) {i : ℕ} → i ≡ position n t → i ≤ length t
index_in n t found = omega (arith, found, position_in n t)

module _ {H : Type 0} (n : List ℕ) (t : List (Entry H)) where
  pub not_standing : position n t ≡ length t → find n t ≡ none
  not_standing all = go (standing n t)
    where
      go : Standing n t → find n t ≡ none
      go (Standing.nowhere last f) = f
      go (Standing.at p e r cut here f change gone) = absurd (omega (arith, here, ap length cut, length-append p (e ∷ r)))

  pub record Stood : Type 0 where
    pub entry : Entry H
    pub found : find n t ≡ some entry

  pub does_stand : (position n t ≡ length t → ⊥) → Stood
  does_stand fewer = go (standing n t)
    where
      go : Standing n t → Stood
      go (Standing.nowhere last f) = absurd (fewer last)
      go (Standing.at p e r cut here f change gone) = record { entry = e; found = f }

-- ---- the slot at that index

slot_standing : (k : ℕ) (n : List ℕ) (t : List TableEntry) (b : List ℕ) → IsTable k t b → (e : TableEntry) → find n t ≡ some e → Standing n t
    → take slot_size (drop (slot_size * position n t) b) ≡ slot_bytes e
slot_standing k n t b h e f (Standing.nowhere last none_there) = absurd (none-ne-some e (sym none_there ∙ f))
slot_standing k n t b h e f (Standing.at p d r cut here found change gone) =
    ap (λ (i : ℕ). take slot_size (drop (slot_size * i) b)) here ∙ slot_there k p d r b (subst (λ (u : List TableEntry). IsTable k u b) cut h)
    ∙ ap slot_bytes (some-injective d e (sym found ∙ f))

pub slot_found : (k : ℕ) (n : List ℕ) (t : List TableEntry) (b : List ℕ) → IsTable k t b → (e : TableEntry) → find n t ≡ some e
    → take slot_size (drop (slot_size * position n t) b) ≡ slot_bytes e
slot_found k n t b h e f = slot_standing k n t b h e f (standing n t)
