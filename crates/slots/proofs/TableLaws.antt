-- The bytes of a table, slot by slot. Assumes nothing.
use Prim.Native.Nat.{ℕ, zero, suc, ◌+◌, ◌-◌, ◌*◌, ◌≤◌, ◌<◌}
use mathlib.Core.Bool.{Bool}
use mathlib.Core.Path.{◌≡◌, refl, sym, ap, ap₂, ◌∙◌}
use mathlib.Core.List.{List, [], ◌∷◌, ◌++◌}
use native.Mathlib.Nat.{add-zero, suc-ne-zero}
use native.Mathlib.Omega.{arith}
use lib.ListN.{length, take, drop, get_or, replicate, length-replicate, drop_of_length-le}
use lib.Seq.{drop-drop, take-take, get_or-take, get_or-drop}
use Rattle.base.specs.Bytes.{overlay}
use Rattle.base.specs.Logic.{Every, Decides}
use Rattle.base.specs.Rows.{in_slots, row_bytes, IsRow}
use Rattle.base.proofs.Bytes.{overlay_to_end}
use Rattle.base.proofs.Lists.{drop_take}
use Rattle.base.proofs.RowLaws.{row_none, length_slots, length_row, unused_first, used_first, rest_row, RowReached, row_reached_none, row_reached_more, row_no_slot, row_unused_decides, row_reached_all}
use Rattle.base.proofs.Tests.{decides_as}
use Rattle.name.proofs.WireLaws.{proper_some, proper_short}
use Rattle.slots.specs.Form.{TableEntry, slot_bytes, WellFormed, IsSlot, used_slots, table_bytes, IsTable}
use Rattle.slots.specs.Promise.{Entries, name_at}
use Rattle.slots.specs.Sizes.{slot_size}
use Rattle.slots.proofs.LaidLaws.{length_slot, slot_length, slot_name}
use Rattle.slots.proofs.NameLaws.{EntryAt, entry_at}

-- ---- a table is a row of slots (base, specs/Rows.antt), and what holds of rows holds of it

used_are : (t : List TableEntry) → used_slots t ≡ in_slots slot_bytes t
unfolding used_slots in_slots
used_are [] = refl
used_are (e ∷ t) = ap (λ (b : List ℕ). slot_bytes e ++ b) (used_are t)

pub bytes_are : (k : ℕ) (t : List TableEntry) → table_bytes k t ≡ row_bytes slot_bytes slot_size k t
unfolding table_bytes row_bytes
bytes_are k t = ap (λ (b : List ℕ). b ++ replicate (slot_size * (k - length t)) 0) (used_are t)

pub as_row : {k : ℕ} {t : List TableEntry} {b : List ℕ} → IsTable k t b → IsRow slot_bytes slot_size WellFormed k t b
as_row {k} {t} h = record { each = h.each; room = h.room; form = h.form ∙ bytes_are k t }

as_table : {k : ℕ} {t : List TableEntry} {b : List ℕ} → IsRow slot_bytes slot_size WellFormed k t b → IsTable k t b
as_table {k} {t} h = record { each = h.each; room = h.room; form = h.form ∙ sym (bytes_are k t) }

pub one_byte : 1 ≤ slot_size
one_byte = omega arith

-- no slot of an entry begins with 0, as an unused one does
pub slot_marked : (e : TableEntry) → WellFormed e → get_or (slot_bytes e) 0 0 ≡ 0 → ⊥
slot_marked e w z = omega (arith, slot_length e w, proper_some e.name w.proper)

pub table_none : (k : ℕ) → table_bytes k [] ≡ replicate (slot_size * k) 0
table_none k = bytes_are k [] ∙ row_none slot_bytes slot_size k

-- zeros over all of it
pub emptied : (k : ℕ) (b : List ℕ) → length b ≡ slot_size * k → overlay b 0 (replicate (slot_size * k) 0) ≡ table_bytes k []
emptied k b size = overlay_to_end b 0 (replicate (slot_size * k) 0) (omega (arith, length-replicate {A = ℕ} (slot_size * k) 0)) ∙ sym (table_none k)

pub length_used : (t : List TableEntry) → Every WellFormed t → length (used_slots t) ≡ slot_size * length t
length_used t each = ap length (used_are t) ∙ length_slots slot_bytes slot_size WellFormed length_slot t each

-- the bytes of every table
pub length_table : (k : ℕ) (t : List TableEntry) (b : List ℕ) → IsTable k t b → length b ≡ slot_size * k
length_table k t b h = length_row slot_bytes slot_size WellFormed length_slot k t b (as_row h)

-- ---- the first byte says what stands first: zeros, or a slot whose name has that length

first_of_lem : (e : TableEntry) (b : List ℕ) → WellFormed e → take slot_size b ≡ slot_bytes e → get_or b 0 0 ≡ length e.name
first_of_lem e b w slot = sym (get_or-take slot_size b 0 0 (omega arith)) ∙ ap (λ (s : List ℕ). get_or s 0 0) slot ∙ slot_length e w

name_of : (e : TableEntry) (b : List ℕ) → WellFormed e → take slot_size b ≡ slot_bytes e → take (length e.name) (drop 1 b) ≡ e.name
name_of e b w slot =
    let n = length e.name in
    let short = proper_short e.name w.proper in
    sym (take-take n (slot_size - 1) (drop 1 b) (omega arith)) ∙ sym (ap (take n) (drop_take 1 slot_size b)) ∙ ap (λ (s : List ℕ). take n (drop 1 s)) slot ∙ slot_name e w

module _ (k : ℕ) (b : List ℕ) where
  -- a first byte 0: nothing is used
  pub unused_from : get_or b 0 0 ≡ 0 → (t : List TableEntry) → IsTable k t b → (t ≡ []) × (b ≡ replicate (slot_size * k) 0)
  unused_from z t h = unused_first slot_bytes slot_size WellFormed length_slot one_byte slot_marked k b z t (as_row h)

  -- another first byte: a slot, and the rest
  pub record UsedFirst (t : List TableEntry) : Type 0 where
    pub entry : TableEntry
    pub later : List TableEntry
    pub order : t ≡ entry ∷ later
    pub well_formed : WellFormed entry
    pub slot : take slot_size b ≡ slot_bytes entry
    pub name : take (get_or b 0 0) (drop 1 b) ≡ entry.name

  pub used_from : (0 < k) → (get_or b 0 0 ≡ 0 → ⊥) → (t : List TableEntry) → IsTable k t b → UsedFirst t
  used_from some nz t h =
      let u = used_first slot_bytes slot_size WellFormed length_slot one_byte slot_marked k b some nz t (as_row h) in
      record {
        entry = u.entry;
        later = u.later;
        order = u.order;
        well_formed = u.well_formed;
        slot = u.first;
        name = ap (λ (n : ℕ). take n (drop 1 b)) (first_of_lem u.entry b u.well_formed u.first) ∙ name_of u.entry b u.well_formed u.first;
      }

-- ---- the loop that looks at each slot

-- what is a table from slot i on makes all of it one, and the other way round
abbrev pub Reached : ℕ → List ℕ → ℕ → Type 0
Reached = RowReached slot_bytes slot_size WellFormed length_slot one_byte slot_marked

pub reached_none : (k : ℕ) (b : List ℕ) → Reached k b 0
reached_none k b = row_reached_none slot_bytes slot_size WellFormed length_slot one_byte slot_marked k b

module _ (k : ℕ) (b : List ℕ) (i : ℕ) (r : Reached k b i) (more : i < k) where
  module _ (nz : get_or b (slot_size * i) 0 ≡ 0 → ⊥) where
    pub reached_more : IsSlot (take slot_size (drop (slot_size * i) b)) → Reached k b (i + 1)
    unfolding IsSlot
    reached_more (e, w, form) = row_reached_more slot_bytes slot_size WellFormed length_slot one_byte slot_marked k b i r more nz e w form

    -- a used slot that is none
    pub no_slot : (IsSlot (take slot_size (drop (slot_size * i) b)) → ⊥) → Entries k b → ⊥
    unfolding IsSlot
    no_slot none_here (t, h) = row_no_slot slot_bytes slot_size WellFormed length_slot one_byte slot_marked k b i r more nz (λ e w form. none_here (e, w, form)) (t, as_row h)

  -- an unused slot: whether the rest is zeros decides
  pub unused_decides : get_or b (slot_size * i) 0 ≡ 0 → length b ≡ slot_size * k → (d : Bool) (rest : List ℕ) → rest ≡ drop (slot_size * i) b → Decides d (rest ≡ replicate (length rest) 0) → Decides d (Entries k b)
  unused_decides z long d rest e decides =
      decides_as (λ h. (h.0, as_table h.1)) (λ h. (h.0, as_row h.1))
      (row_unused_decides slot_bytes slot_size WellFormed length_slot one_byte slot_marked k b i r more z long d rest e decides)

pub reached_all : (k : ℕ) (b : List ℕ) (i : ℕ) → Reached k b i → k ≤ i → length b ≡ slot_size * k → Entries k b
reached_all k b i r all long = let h = row_reached_all slot_bytes slot_size WellFormed length_slot one_byte slot_marked k b i r all long in (h.0, as_table h.1)

-- ---- the entries from one on

rest_table : (i k : ℕ) (t : List TableEntry) (b : List ℕ) → IsTable k t b → i ≤ length t → IsTable (k - i) (drop i t) (drop (slot_size * i) b)
rest_table i k t b h low = as_table (rest_row slot_bytes slot_size WellFormed length_slot i k t b (as_row h) low)

-- what stands at slot i: nothing, or an entry
module _ (k : ℕ) (t : List TableEntry) (b : List ℕ) (h : IsTable k t b) (i : ℕ) (low : i ≤ length t) where
  pub no_more : k ≤ i → drop i t ≡ []
  no_more all = drop_of_length-le t {i = i} (omega (arith, h.room))

  first_is : get_or (drop (slot_size * i) b) 0 0 ≡ get_or b (slot_size * i) 0
  first_is = get_or-drop (slot_size * i) b 0 0 ∙ ap (λ (n : ℕ). get_or b n 0) (add-zero (slot_size * i))

  pub none_at : get_or b (slot_size * i) 0 ≡ 0 → drop i t ≡ []
  none_at z = (unused_from (k - i) (drop (slot_size * i) b) (first_is ∙ z) (drop i t) (rest_table i k t b h low)).0

  pub some_at : i < k → (get_or b (slot_size * i) 0 ≡ 0 → ⊥) → UsedFirst (k - i) (drop (slot_size * i) b) (drop i t)
  some_at more nz = used_from (k - i) (drop (slot_size * i) b) (omega arith) (λ z. nz (sym first_is ∙ z)) (drop i t) (rest_table i k t b h low)

  -- the same by the name that stands there
  pub record UsedAt : Type 0 where
    pub entry : TableEntry
    pub later : List TableEntry
    pub at : EntryAt t i entry later
    pub well_formed : WellFormed entry
    pub slot : take slot_size (drop (slot_size * i) b) ≡ slot_bytes entry
    pub name : name_at b i ≡ entry.name

  module _ (more : i < k) where
    name_is : name_at b i ≡ take (get_or (drop (slot_size * i) b) 0 0) (drop 1 (drop (slot_size * i) b))
    unfolding name_at
    name_is = ap₂ take (sym first_is) (sym (drop-drop 1 (slot_size * i) b))

    pub held_none : length (name_at b i) ≡ 0 → drop i t ≡ []
    held_none none = go (get_or b (slot_size * i) 0) refl
      where
        go : (v : ℕ) → get_or b (slot_size * i) 0 ≡ v → drop i t ≡ []
        go zero z = none_at z
        go (suc v) z =
            let u = some_at more (λ y. suc-ne-zero v (sym z ∙ y)) in
            let same : name_at b i ≡ u.entry.name = name_is ∙ u.name in
            absurd (omega (arith, ap length same, proper_some u.entry.name u.well_formed.proper))

    pub held_some : (length (name_at b i) ≡ 0 → ⊥) → UsedAt
    held_some some =
        let u = some_at more (λ z. some (ap length (name_is ∙ ap (λ (n : ℕ). take n (drop 1 (drop (slot_size * i) b))) (first_is ∙ z)))) in
        record { entry = u.entry; later = u.later; at = entry_at t i u.entry u.later u.order; well_formed = u.well_formed; slot = u.slot; name = name_is ∙ u.name }
