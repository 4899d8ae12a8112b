-- A list of entries that is made of names, one entry for each. Assumes nothing.
use Prim.Native.Nat.{ℕ}
use mathlib.Core.Bool.{true, false, false≢true}
use mathlib.Core.Path.{◌≡◌, refl, sym, ap, ap₂, subst, ◌∙◌}
use mathlib.Core.List.{List, [], ◌∷◌, map}
use mathlib.Core.Option.{none, some}
use Rattle.base.specs.Logic.{Every}
use Rattle.base.proofs.Tests.{eq_eq_bytes, ne_eq_bytes}
use Rattle.slots.specs.Entry.{names, Distinct}
use Rattle.slots.specs.Form.{TableEntry}
use Rattle.table.specs.Steps.{find, changed}
use Rattle.table.proofs.OthersLaws.{find_same, find_other, changed_same, changed_other}
use Rattle.records.proofs.OwnerLaws.{by_name, among, among_other, not_first, not_later}

module _ (g : List ℕ → TableEntry) (named : (m : List ℕ) → (g m).name ≡ m) where
  pub names_mapped : (ns : List (List ℕ)) → names (map g ns) ≡ ns
  names_mapped [] = refl
  names_mapped (m ∷ ns) = ap₂ ◌∷◌ (named m) (names_mapped ns)

  -- ---- the look-up

  module _ (n : List ℕ) where
    pub mapped_absent : (ns : List (List ℕ)) → among n ns ≡ false → find n (map g ns) ≡ none
    unfolding find
    mapped_absent [] h = refl
    mapped_absent (m ∷ ns) h =
        find_other n (g m) (map g ns) (ne_eq_bytes (g m).name n (λ e. not_first n m ns h (sym (named m) ∙ e))) ∙ mapped_absent ns (not_later n m ns h)

    pub mapped_found : (ns : List (List ℕ)) → among n ns ≡ true → find n (map g ns) ≡ some (g n)
    unfolding among
    mapped_found [] h = absurd (false≢true h)
    mapped_found (m ∷ ns) h =
        by_name m n
        (λ e. find_same n (g m) (map g ns) (eq_eq_bytes (g m).name n (named m ∙ e)) ∙ ap (λ (k : List ℕ). some (g k)) e)
        (λ d. find_other n (g m) (map g ns) (ne_eq_bytes (g m).name n (λ e. d (sym (named m) ∙ e))) ∙ mapped_found ns (sym (among_other n m ns d) ∙ h))

    -- ---- another entry for one name

    -- g and g' differ at n alone
    module _ (g' : List ℕ → TableEntry) (elsewhere : (m : List ℕ) → (n ≡ m → ⊥) → g m ≡ g' m) where
      pub mapped_still : (ns : List (List ℕ)) → Every (λ m. m ≡ n → ⊥) ns → map g ns ≡ map g' ns
      mapped_still [] h = refl
      mapped_still (m ∷ ns) (Every.more d h) = ap₂ ◌∷◌ (elsewhere m (λ e. d (sym e))) (mapped_still ns h)

      pub mapped_changed : (f : TableEntry → TableEntry) → f (g n) ≡ g' n → (ns : List (List ℕ)) → Distinct ns → changed n f (map g ns) ≡ map g' ns
      unfolding changed
      mapped_changed f here [] d = refl
      mapped_changed f here (m ∷ ns) (Distinct.more apart d) =
          by_name m n
          (λ e. changed_same n (g m) (map g ns) f (eq_eq_bytes (g m).name n (named m ∙ e))
          ∙ ap₂ ◌∷◌ (ap (λ (k : List ℕ). f (g k)) e ∙ here ∙ ap g' (sym e)) (mapped_still ns (subst (λ (k : List ℕ). Every (λ j. j ≡ k → ⊥) ns) e apart)))
          (λ other. changed_other n (g m) (map g ns) f (ne_eq_bytes (g m).name n (λ e. other (sym (named m) ∙ e)))
          ∙ ap₂ ◌∷◌ (elsewhere m (λ e. other (sym e))) (mapped_changed f here ns d))
