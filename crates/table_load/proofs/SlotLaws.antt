-- The slot of a name in a table, by where it stands among the names. Assumes nothing.
use Prim.Native.Nat.{ℕ, zero, suc, ◌*◌, ◌<◌}
use mathlib.Core.Bool.{Bool, cond}
use mathlib.Core.Path.{◌≡◌, sym, ap, ◌∙◌}
use mathlib.Core.List.{List, [], ◌∷◌}
use mathlib.Core.Option.{Option, none, some}
use native.Mathlib.Omega.{arith}
use lib.ListN.{length, get_or}
use borrow.Author.Tests.{lt-ltb}
use Rattle.base.proofs.Tests.{eq_eq_bytes, ne_eq_bytes}
use Rattle.slots.specs.Entry.{names, position, Distinct}
use Rattle.slots.specs.Form.{TableEntry}
use Rattle.slots.specs.Sizes.{most_names, slot_size}
use Rattle.table.specs.Steps.{find}
use Rattle.table.specs.Promise.{slot_by, slot_for}
use Rattle.table.specs.declared.slot_for.SlotFor.TheVariants.{Held, Free, Full}
use Rattle.table_fault.proofs.IndexLaws.{each_at}

record Stands (n : List ℕ) (t : List TableEntry) (i : ℕ) : Type 0 where
  entry : TableEntry
  found : find n t ≡ some entry
  here : position n t ≡ i

stands : (n : List ℕ) (t : List TableEntry) (i : ℕ) → Distinct (names t) → i < length (names t) → get_or (names t) i [] ≡ n → Stands n t i
unfolding find position
stands n [] i d lt own = absurd (omega arith)
stands n (e ∷ t) zero d lt own =
    let same = eq_eq_bytes e.name n own in
    record { entry = e; found = ap (λ (b : Bool). cond b (some e) (find n t)) same; here = ap (λ (b : Bool). cond b 0 (suc (position n t))) same }
stands n (e ∷ t) (suc i) (Distinct.more h d) lt own =
    let differs = ne_eq_bytes e.name n (λ x. each_at (names t) h i (omega arith) (own ∙ sym x)) in
    let rest = stands n t i d (omega arith) own in
    record {
      entry = rest.entry;
      found = ap (λ (b : Bool). cond b (some e) (find n t)) differs ∙ rest.found;
      here = ap (λ (b : Bool). cond b 0 (suc (position n t))) differs ∙ ap suc rest.here;
    }

module _ (n : List ℕ) (t : List TableEntry) where
  pub slot_held : (i : ℕ) → Distinct (names t) → i < length (names t) → get_or (names t) i [] ≡ n → slot_for most_names n t ≡ Held (slot_size * i)
  unfolding slot_for
  slot_held i d lt own = let s = stands n t i d lt own in λ j. slot_by (s.found j) most_names (s.here j) (length t)

  pub slot_free : find n t ≡ none → length t < most_names → slot_for most_names n t ≡ Free (slot_size * length t)
  unfolding slot_for
  slot_free absent room =
      ap (λ (o : Option TableEntry). slot_by o most_names (position n t) (length t)) absent
      ∙ ap (λ (b : Bool). cond b (Free (slot_size * length t)) Full) (lt-ltb (length t) most_names room)
