-- From the place of a name and what is left there to the outcome of a step. Assumes nothing.
use Prim.Native.Nat.{ℕ, ◌+◌, ◌-◌, ◌*◌, ◌≤◌, ◌<◌}
use mathlib.Core.Bool.{Bool, true, false, cond}
use mathlib.Core.Path.{◌≡◌, refl, sym, ap, subst, ◌∙◌}
use mathlib.Core.List.{List, [], ◌∷◌, ◌++◌, append_assoc}
use mathlib.Core.Option.{Option, none, some}
use native.Mathlib.Omega.{arith}
use lib.Dec.{ltb}
use lib.ListN.{length, take, drop, replicate}
use lib.Seq.{drop-drop}
use borrow.Author.Tests.{ltb-true, ltb-false}
use Rattle.base.specs.Bytes.{closed_up}
use Rattle.base.specs.declared.Answer.{Answer}
use Rattle.slots.specs.Entry.{position}
use Rattle.slots.specs.Form.{TableEntry, slot_bytes, WellFormed, table_bytes, IsTable}
use Rattle.slots.specs.Sizes.{slot_size}
use Rattle.slots.proofs.TableLaws.{length_table}
use Rattle.slots.proofs.SplitLaws.{entry_well_formed, entry_within, slot_there, replaced, taken_out, unused_there, appended}
use Rattle.table.specs.Steps.{find, changed, without}
use Rattle.table.specs.Promise.{slot_by, slot_for, AtEntry, slot_at, in_slot, LeavesEntry, LeavesSlot}
use Rattle.table.specs.declared.slot_for.SlotFor.TheVariants.{Held, Free, Full}
use Rattle.table.proofs.FoundLaws.{Standing, standing}

-- ---- a slot that was lent

pub slot_size_lem : (at : ℕ) → at + slot_size - at ≡ slot_size
slot_size_lem at = omega arith

-- the part that was lent is the slot
pub lent_slot : (b : List ℕ) (at : ℕ) → take (at + slot_size - at) (drop at b) ≡ slot_at b at
lent_slot b at = ap (λ (n : ℕ). take n (drop at b)) (slot_size_lem at)

-- the table once the part has come back
pub put_in : (b : List ℕ) (at : ℕ) (s : List ℕ) → take at b ++ (s ++ drop (at + slot_size - at) (drop at b)) ≡ in_slot b at s
unfolding in_slot
put_in b at s =
    ap (λ (k : ℕ). take at b ++ (s ++ drop k (drop at b))) (slot_size_lem at) ∙ ap (λ (r : List ℕ). take at b ++ (s ++ r)) (drop-drop slot_size at b)
    ∙ sym (append_assoc (take at b) s (drop (at + slot_size) b))

pub leaves_slot : (b : List ℕ) (at : ℕ) (o : AtEntry) (r : Answer) (s left : List ℕ) → left ≡ take at b ++ (s ++ drop (at + slot_size - at) (drop at b)) → LeavesEntry o r s → LeavesSlot b at o r left
leaves_slot b at o r s left e l = record { answered = l.answered; table = e ∙ put_in b at s ∙ ap (in_slot b at) l.slot }

-- ---- the place of a name

module _ (k : ℕ) (n : List ℕ) (t : List TableEntry) (b : List ℕ) where
  -- held at an offset: the entry there, and the table with another one there, or without it
  pub record HeldAt (at : ℕ) : Type 0 where
    pub before : List TableEntry
    pub entry : TableEntry
    pub after : List TableEntry
    pub cut : t ≡ before ++ entry ∷ after
    pub found : find n t ≡ some entry
    pub offset : at ≡ slot_size * position n t
    pub change : (f : TableEntry → TableEntry) → changed n f t ≡ before ++ f entry ∷ after
    pub gone : without n t ≡ before ++ after
    pub well_formed : WellFormed entry
    pub slot : slot_at b at ≡ slot_bytes entry
    pub fits : at + slot_size ≤ length b
    pub put : (f : TableEntry) → in_slot b at (slot_bytes f) ≡ table_bytes k (before ++ f ∷ after)
    pub out : closed_up slot_size b at ≡ table_bytes k (before ++ after)

  -- free at an offset: an unused slot, and the table with an entry there
  pub record FreeAt (at : ℕ) : Type 0 where
    pub found : find n t ≡ none
    pub room : length t < k
    pub slot : slot_at b at ≡ replicate slot_size 0
    pub fits : at + slot_size ≤ length b
    pub put : (f : TableEntry) → in_slot b at (slot_bytes f) ≡ table_bytes k (t ++ f ∷ [])

  pub record FullUp : Type 0 where
    pub found : find n t ≡ none
    pub full : k ≤ length t

  placed : (o : Option TableEntry) → find n t ≡ o → slot_for k n t ≡ slot_by o k (position n t) (length t)
  unfolding slot_for
  placed o f = ap (λ (x : Option TableEntry). slot_by x k (position n t) (length t)) f

  module _ (h : IsTable k t b) where
    held_by : (at : ℕ) → Held at ≡ slot_for k n t → Standing n t → HeldAt at
    unfolding in_slot
    held_by at p (Standing.nowhere last f) = absurd (go (ltb (length t) k) (p ∙ placed none f))
      where
        go : (x : Bool) → Held at ≡ cond x (Free (slot_size * length t)) Full → ⊥
        go true e = let z : ◌≡◌ {A = ℕ} 0 1 = cc in omega arith
        go false e = let z : ◌≡◌ {A = ℕ} 0 1 = cc in omega arith
    held_by at p (Standing.at q e r cut here f change gone) =
        let table : IsTable k (q ++ e ∷ r) b = subst (λ (u : List TableEntry). IsTable k u b) cut h in
        let offset : at ≡ slot_size * position n t = let same : Held at ≡ Held (slot_size * position n t) = p ∙ placed (some e) f in cc in
        let there : at ≡ slot_size * length q = offset ∙ ap (λ (j : ℕ). slot_size * j) here in
        let within = entry_within k q e r b table in
        record {
          before = q;
          entry = e;
          after = r;
          cut = cut;
          found = f;
          offset = offset;
          change = change;
          gone = gone;
          well_formed = entry_well_formed k q e r b table;
          slot = ap (slot_at b) there ∙ slot_there k q e r b table;
          fits = omega (arith, there, within, length_table k (q ++ e ∷ r) b table);
          put = λ g. ap (λ (j : ℕ). take j b ++ slot_bytes g ++ drop (j + slot_size) b) there ∙ replaced k q e r b table g;
          out = ap (closed_up slot_size b) there ∙ taken_out k q e r b table;
        }

    pub held_at : (at : ℕ) → Held at ≡ slot_for k n t → HeldAt at
    held_at at p = held_by at p (standing n t)

    free_by : (at : ℕ) → Free at ≡ slot_for k n t → Standing n t → FreeAt at
    unfolding in_slot
    free_by at p (Standing.at q e r cut here f change gone) = absurd (let same : Free at ≡ Held (slot_size * position n t) = p ∙ placed (some e) f in let z : ◌≡◌ {A = ℕ} 0 1 = cc in omega arith)
    free_by at p (Standing.nowhere last f) = go (ltb (length t) k) refl (p ∙ placed none f)
      where
        go : (x : Bool) → ltb (length t) k ≡ x → Free at ≡ cond x (Free (slot_size * length t)) Full → FreeAt at
        go true e same =
            let there : at ≡ slot_size * length t = cc in
            let room = ltb-true (length t) k e in
            record {
              found = f;
              room = room;
              slot = ap (slot_at b) there ∙ unused_there k t b h room;
              fits = omega (arith, there, room, length_table k t b h);
              put = λ g. ap (λ (j : ℕ). take j b ++ slot_bytes g ++ drop (j + slot_size) b) there ∙ appended k t b h room g;
            }
        go false e same = absurd (let z : ◌≡◌ {A = ℕ} 0 1 = cc in omega arith)

    pub free_at : (at : ℕ) → Free at ≡ slot_for k n t → FreeAt at
    free_at at p = free_by at p (standing n t)

    full_by : Full ≡ slot_for k n t → Standing n t → FullUp
    full_by p (Standing.at q e r cut here f change gone) = absurd (let same : Full ≡ Held (slot_size * position n t) = p ∙ placed (some e) f in let z : ◌≡◌ {A = ℕ} 0 1 = cc in omega arith)
    full_by p (Standing.nowhere last f) = go (ltb (length t) k) refl (p ∙ placed none f)
      where
        go : (x : Bool) → ltb (length t) k ≡ x → Full ≡ cond x (Free (slot_size * length t)) Full → FullUp
        go true e same = absurd (let z : ◌≡◌ {A = ℕ} 0 1 = cc in omega arith)
        go false e same = record { found = f; full = ltb-false (length t) k e }

    pub full_up : Full ≡ slot_for k n t → FullUp
    full_up p = full_by p (standing n t)
