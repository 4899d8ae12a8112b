-- Whether a name stands in a slot before its own. Assumes nothing.
use Prim.Native.Nat.{ℕ, ◌+◌, ◌≤◌, ◌<◌}
use mathlib.Core.Bool.{true, false, true≢false}
use mathlib.Core.Path.{◌≡◌, refl, sym, ap, ◌∙◌}
use mathlib.Core.List.{List, ◌∷◌, head-eq_of_cons-eq}
use native.Mathlib.Omega.{arith}
use lib.ListN.{length, drop, length-drop}
use Rattle.base.specs.Bytes.{eq_bytes}
use Rattle.base.proofs.Tests.{eq_bytes_true, eq_eq_bytes}
use Rattle.slots.specs.Entry.{position}
use Rattle.slots.specs.Form.{TableEntry, IsTable}
use Rattle.slots.specs.Promise.{name_at}
use Rattle.slots.proofs.NameLaws.{EntryAt, entry_at, Searched, searched_here, searched_more}
use Rattle.slots.proofs.TableLaws.{UsedAt, held_none, held_some}

module _ (k : ℕ) (t : List TableEntry) (b : List ℕ) (h : IsTable k t b) where
  -- the entry in a used slot
  entry_there : (j : ℕ) (low : j ≤ length t) → j < length t → UsedAt k t b h j low
  entry_there j low within =
      held_some k t b h j low (omega (arith, h.room)) (λ none. omega (arith, ap length (held_none k t b h j low (omega (arith, h.room)) none), length-drop j t))

  module _ (i : ℕ) (e : TableEntry) (r : List TableEntry) (cut : drop i t ≡ e ∷ r) where
    at_i : EntryAt t i e r
    at_i = entry_at t i e r cut

    name_there : name_at b i ≡ e.name
    name_there =
        let u = entry_there i (omega (arith, at_i.within)) at_i.within in
        u.name ∙ ap (λ (f : TableEntry). f.name) (head-eq_of_cons-eq (sym u.at.cut ∙ cut))

    -- the names before slot j are others: none before slot i is its own
    pub first_there : Searched e.name t i → position e.name t ≡ i
    first_there s = sym (searched_here e.name t i s e r at_i refl)

    module _ (j : ℕ) (before : j < i) (s : Searched e.name t j) where
      low : j ≤ length t
      low = omega (arith, at_i.within)

      held : UsedAt k t b h j low
      held = entry_there j low (omega (arith, at_i.within))

      pub stands_before : eq_bytes (name_at b j) (name_at b i) ≡ true → position e.name t ≡ i → ⊥
      stands_before same own =
          let name : held.entry.name ≡ e.name = sym held.name ∙ eq_bytes_true (name_at b j) (name_at b i) same ∙ name_there in
          let there : j ≡ position e.name t = searched_here e.name t j s held.entry held.later held.at name in
          omega arith

      pub not_there : eq_bytes (name_at b j) (name_at b i) ≡ false → Searched e.name t (j + 1)
      not_there other =
          searched_more e.name t j s held.entry held.later held.at
          (λ name. true≢false (sym (eq_eq_bytes (name_at b j) (name_at b i) (held.name ∙ name ∙ sym name_there)) ∙ other))
