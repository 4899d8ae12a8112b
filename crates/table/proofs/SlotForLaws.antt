-- The place of a name, by its position and the byte that stands there. Assumes nothing.
use Prim.Native.Nat.{ℕ, ◌*◌, ◌≤◌}
use mathlib.Core.Bool.{Bool, true, false, cond}
use mathlib.Core.Path.{◌≡◌, refl, sym, ap, ap₂, ◌∙◌}
use mathlib.Core.List.{List, [], ◌∷◌, ◌++◌, nil≢cons}
use mathlib.Core.Option.{Option, none}
use native.Mathlib.Omega.{arith}
use lib.Dec.{ltb}
use lib.ListN.{length, drop, get_or, length-append}
use lib.Seq.{drop_at, drop-length}
use borrow.Author.Tests.{lt-ltb, le-ltb}
use Rattle.slots.specs.Entry.{position}
use Rattle.slots.specs.Form.{TableEntry, IsTable}
use Rattle.slots.specs.Sizes.{slot_size}
use Rattle.slots.proofs.TableLaws.{none_at, some_at}
use Rattle.table.specs.Steps.{find}
use Rattle.table.specs.Promise.{slot_by, slot_for}
use Rattle.table.specs.declared.slot_for.SlotFor.TheVariants.{Held, Free, Full}
use Rattle.table.proofs.FoundLaws.{Standing, standing}

pub position_in : (n : List ℕ) (t : List TableEntry) → position n t ≤ length t
position_in n t = go (standing n t)
  where
    go : Standing n t → position n t ≤ length t
    go (Standing.nowhere last f) = omega arith
    go (Standing.at p e r cut here f change gone) = omega (arith, here, ap length cut, length-append p (e ∷ r))

module _ (k : ℕ) (n : List ℕ) (t : List TableEntry) (b : List ℕ) (h : IsTable k t b) (i : ℕ) (found : i ≡ position n t) where
  -- behind the last entry nothing stands, and before it something
  behind : position n t ≡ length t → drop i t ≡ []
  behind last = ap (λ (j : ℕ). drop j t) (found ∙ last) ∙ drop-length t

  there : (p : List TableEntry) (e : TableEntry) (r : List TableEntry) → t ≡ p ++ e ∷ r → position n t ≡ length p → drop i t ≡ e ∷ r
  there p e r cut here = ap₂ drop (found ∙ here) cut ∙ drop_at p (e ∷ r) (length p) refl

  low : i ≤ length t
  low = omega (arith, found, position_in n t)

  not_there : find n t ≡ none → (b' : Bool) → ltb (length t) k ≡ b' → slot_for k n t ≡ cond b' (Free (slot_size * length t)) Full
  unfolding slot_for
  not_there f b' e = ap (λ (o : Option TableEntry). slot_by o k (position n t) (length t)) f ∙ ap (λ (x : Bool). cond x (Free (slot_size * length t)) Full) e

  pub slot_full : i ≡ k → Full ≡ slot_for k n t
  slot_full all = go (standing n t)
    where
      go : Standing n t → Full ≡ slot_for k n t
      go (Standing.nowhere last f) = sym (not_there f false (le-ltb (length t) k (omega (arith, found, last))))
      go (Standing.at p e r cut here f change gone) = absurd (omega (arith, found, here, h.room, ap length cut, length-append p (e ∷ r)))

  module _ (more : i ≡ k → ⊥) where
    pub slot_free : get_or b (slot_size * i) 0 ≡ 0 → Free (slot_size * i) ≡ slot_for k n t
    slot_free z = go (standing n t)
      where
        go : Standing n t → Free (slot_size * i) ≡ slot_for k n t
        go (Standing.nowhere last f) =
            ap (λ (j : ℕ). Free (slot_size * j)) (found ∙ last) ∙ sym (not_there f true (lt-ltb (length t) k (omega (arith, h.room, more, found, last))))
        go (Standing.at p e r cut here f change gone) =
            absurd (nil≢cons (sym (none_at k t b h i low z) ∙ there p e r cut here))

    pub slot_held : (get_or b (slot_size * i) 0 ≡ 0 → ⊥) → Held (slot_size * i) ≡ slot_for k n t
    unfolding slot_for
    slot_held nz = go (standing n t)
      where
        go : Standing n t → Held (slot_size * i) ≡ slot_for k n t
        go (Standing.nowhere last f) =
            let u = some_at k t b h i low (omega (arith, low, h.room, more)) nz in
            absurd (nil≢cons (sym (behind last) ∙ u.order))
        go (Standing.at p e r cut here f change gone) =
            ap (λ (j : ℕ). Held (slot_size * j)) found ∙ sym (ap (λ (o : Option TableEntry). slot_by o k (position n t) (length t)) f)
