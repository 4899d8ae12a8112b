-- One record written into a table, by where its owner stands. Assumes nothing.
use Prim.Native.Nat.{ℕ, ◌*◌, ◌≤◌, ◌<◌}
use mathlib.Core.Bool.{Bool, cond}
use mathlib.Core.Path.{◌≡◌, sym, ap, ◌∙◌}
use mathlib.Core.List.{List}
use mathlib.Core.Option.{Option}
use borrow.Author.Tests.{ne_eqb, lt-ltb, le-ltb}
use Rattle.name.specs.Name.{canonical}
use Rattle.slots.specs.Fields.{bare, with_field}
use Rattle.slots.specs.Form.{TableEntry, slot_bytes, table_bytes, IsTable}
use Rattle.slots.specs.Sizes.{most_names, slot_size}
use Rattle.slots.specs.declared.Rtype.{Rtype}
use Rattle.slots.specs.declared.Rtype.TheVariants as rtype
use Rattle.table.specs.Promise.{in_slot}
use Rattle.table.specs.declared.slot_for.SlotFor.TheVariants.{Held, Free}
use Rattle.table.proofs.StepLaws.{HeldAt, FreeAt, held_at, free_at}
use Rattle.records.specs.Promise.{written_by, written}
use Rattle.table_load.specs.Promise.{numbered, AtSlot}

-- a number that is neither A's nor AAAA's
pub other_type : (n : ℕ) → (n ≡ 1 → ⊥) → (n ≡ 28 → ⊥) → rtype.Dhcid ≡ numbered n
other_type n f g = sym (λ i. cond (ne_eqb n 1 f i) rtype.A (cond (ne_eqb n 28 g i) rtype.Aaaa rtype.Dhcid))

-- slot i of a table is the name's, or the first unused one
module _ (n : List ℕ) (used i : ℕ) (t : List TableEntry) (b : List ℕ) (h : IsTable most_names t b) (at : AtSlot b used n i) where
  pub held_there : i < used → HeldAt most_names n t b (slot_size * i)
  unfolding AtSlot
  held_there lt = held_at most_names n t b h (slot_size * i) (sym (ap (λ (x : Bool). cond x (Held (slot_size * i)) (Free (slot_size * i))) (lt-ltb i used lt)) ∙ at t h)

  pub free_there : used ≤ i → FreeAt most_names n t b (slot_size * i)
  unfolding AtSlot
  free_there le = free_at most_names n t b h (slot_size * i) (sym (ap (λ (x : Bool). cond x (Held (slot_size * i)) (Free (slot_size * i))) (le-ltb i used le)) ∙ at t h)

module _ (n : List ℕ) (k : Rtype) (x : List ℕ) (t : List TableEntry) (b left : List ℕ) where
  -- what is left is the table with the record, where its owner stands and where it is new
  pub written_held : (at : ℕ) (h : HeldAt most_names n t b at) → left ≡ in_slot b at (slot_bytes (with_field k x h.entry)) → left ≡ table_bytes most_names (written n k x t)
  unfolding written
  written_held at h e =
      e ∙ h.put (with_field k x h.entry) ∙ ap (table_bytes most_names) (sym (ap (λ (o : Option TableEntry). written_by o n k x t) h.found ∙ h.change (with_field k x)))

  pub written_free : (at : ℕ) → FreeAt most_names n t b at → canonical n ≡ n → left ≡ in_slot b at (slot_bytes (with_field k x (bare (canonical n)))) → left ≡ table_bytes most_names (written n k x t)
  unfolding written
  written_free at h low e =
      e ∙ ap (λ (m : List ℕ). in_slot b at (slot_bytes (with_field k x (bare m)))) low ∙ h.put (with_field k x (bare n))
      ∙ ap (table_bytes most_names) (sym (ap (λ (o : Option TableEntry). written_by o n k x t) h.found))
