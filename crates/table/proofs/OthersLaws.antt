-- What the changes of a list of entries leave alone. Assumes nothing.
use Prim.Native.Nat.{ℕ}
use mathlib.Core.Bool.{Bool, true, false, cond}
use mathlib.Core.Path.{◌≡◌, refl, sym, ap, subst, ◌∙◌}
use mathlib.Core.List.{List, [], ◌∷◌, ◌++◌}
use mathlib.Core.Option.{none, some, some-ne-none}
use Rattle.base.specs.Bytes.{eq_bytes}
use Rattle.base.specs.Logic.{Every}
use Rattle.base.proofs.Tests.{eq_bytes_true, eq_eq_bytes, ne_eq_bytes}
use Rattle.slots.specs.Entry.{Entry, names, Distinct}
use Rattle.table.specs.Steps.{find, changed, without}
use Rattle.table.specs.Demand2.{others}

module _ {H : Type 0} (n : List ℕ) where
  -- one entry, by whether it has the name
  module _ (e : Entry H) (t : List (Entry H)) where
    others_same : eq_bytes e.name n ≡ true → others n (e ∷ t) ≡ others n t
    unfolding others
    others_same s = ap (λ (b : Bool). cond b (others n t) (e ∷ others n t)) s

    others_other : eq_bytes e.name n ≡ false → others n (e ∷ t) ≡ e ∷ others n t
    unfolding others
    others_other s = ap (λ (b : Bool). cond b (others n t) (e ∷ others n t)) s

    pub find_same : eq_bytes e.name n ≡ true → find n (e ∷ t) ≡ some e
    unfolding find
    find_same s = ap (λ (b : Bool). cond b (some e) (find n t)) s

    pub find_other : eq_bytes e.name n ≡ false → find n (e ∷ t) ≡ find n t
    unfolding find
    find_other s = ap (λ (b : Bool). cond b (some e) (find n t)) s

    pub changed_same : (f : Entry H → Entry H) → eq_bytes e.name n ≡ true → changed n f (e ∷ t) ≡ f e ∷ t
    unfolding changed
    changed_same f s = ap (λ (b : Bool). cond b (f e ∷ t) (e ∷ changed n f t)) s

    pub changed_other : (f : Entry H → Entry H) → eq_bytes e.name n ≡ false → changed n f (e ∷ t) ≡ e ∷ changed n f t
    unfolding changed
    changed_other f s = ap (λ (b : Bool). cond b (f e ∷ t) (e ∷ changed n f t)) s

    pub without_same : eq_bytes e.name n ≡ true → without n (e ∷ t) ≡ t
    unfolding without
    without_same s = ap (λ (b : Bool). cond b t (e ∷ without n t)) s

    pub without_other : eq_bytes e.name n ≡ false → without n (e ∷ t) ≡ e ∷ without n t
    unfolding without
    without_other s = ap (λ (b : Bool). cond b t (e ∷ without n t)) s

  -- ---- an entry changed, its name kept

  module _ (f : Entry H → Entry H) (keeps : (e : Entry H) → (f e).name ≡ e.name) where
    by_others : (e : Entry H) (t : List (Entry H)) (b : Bool) → eq_bytes e.name n ≡ b → others n (changed n f t) ≡ others n t → others n (changed n f (e ∷ t)) ≡ others n (e ∷ t)
    by_others e t true s ih =
        ap (others n) (changed_same e t f s) ∙ others_same (f e) t (ap (λ (m : List ℕ). eq_bytes m n) (keeps e) ∙ s) ∙ sym (others_same e t s)
    by_others e t false s ih = ap (others n) (changed_other e t f s) ∙ others_other e (changed n f t) s ∙ ap (◌∷◌ e) ih ∙ sym (others_other e t s)

    pub others_changed : (t : List (Entry H)) → others n (changed n f t) ≡ others n t
    unfolding changed
    others_changed [] = refl
    others_changed (e ∷ t) = by_others e t (eq_bytes e.name n) refl (others_changed t)

    by_names : (e : Entry H) (t : List (Entry H)) (b : Bool) → eq_bytes e.name n ≡ b → names (changed n f t) ≡ names t → names (changed n f (e ∷ t)) ≡ names (e ∷ t)
    by_names e t true s ih = ap names (changed_same e t f s) ∙ ap (λ (m : List ℕ). m ∷ names t) (keeps e)
    by_names e t false s ih = ap names (changed_other e t f s) ∙ ap (◌∷◌ e.name) ih

    pub names_changed : (t : List (Entry H)) → names (changed n f t) ≡ names t
    unfolding changed
    names_changed [] = refl
    names_changed (e ∷ t) = by_names e t (eq_bytes e.name n) refl (names_changed t)

    by_find : (e : Entry H) (t : List (Entry H)) (d : Entry H) (b : Bool) → eq_bytes e.name n ≡ b → find n (e ∷ t) ≡ some d → (find n t ≡ some d → find n (changed n f t) ≡ some (f d))
        → find n (changed n f (e ∷ t)) ≡ some (f d)
    by_find e t d true s found ih =
        let same : some e ≡ some d = sym (find_same e t s) ∙ found in
        ap (find n) (changed_same e t f s) ∙ find_same (f e) t (ap (λ (m : List ℕ). eq_bytes m n) (keeps e) ∙ s) ∙ cc
    by_find e t d false s found ih = ap (find n) (changed_other e t f s) ∙ find_other e (changed n f t) s ∙ ih (sym (find_other e t s) ∙ found)

    pub find_changed : (t : List (Entry H)) (d : Entry H) → find n t ≡ some d → find n (changed n f t) ≡ some (f d)
    unfolding find
    find_changed [] d found = absurd (some-ne-none d (sym found))
    find_changed (e ∷ t) d found = by_find e t d (eq_bytes e.name n) refl found (λ g. find_changed t d g)

  -- ---- an entry more, at the end

  by_last : (e : Entry H) (t : List (Entry H)) (d : Entry H) (b : Bool) → eq_bytes e.name n ≡ b → others n (t ++ d ∷ []) ≡ others n t → others n (e ∷ t ++ d ∷ []) ≡ others n (e ∷ t)
  by_last e t d true s ih = others_same e (t ++ d ∷ []) s ∙ ih ∙ sym (others_same e t s)
  by_last e t d false s ih = others_other e (t ++ d ∷ []) s ∙ ap (◌∷◌ e) ih ∙ sym (others_other e t s)

  pub others_last : (t : List (Entry H)) (d : Entry H) → d.name ≡ n → others n (t ++ d ∷ []) ≡ others n t
  others_last [] d same = others_same d [] (eq_eq_bytes d.name n same)
  others_last (e ∷ t) d same = by_last e t d (eq_bytes e.name n) refl (others_last t d same)

  by_new : (e : Entry H) (t : List (Entry H)) (d : Entry H) (b : Bool) → eq_bytes e.name n ≡ b → find n (e ∷ t) ≡ none → (find n t ≡ none → find n (t ++ d ∷ []) ≡ some d)
      → find n (e ∷ t ++ d ∷ []) ≡ some d
  by_new e t d true s found ih = absurd (some-ne-none e (sym (find_same e t s) ∙ found))
  by_new e t d false s found ih = find_other e (t ++ d ∷ []) s ∙ ih (sym (find_other e t s) ∙ found)

  pub find_last : (t : List (Entry H)) (d : Entry H) → find n t ≡ none → d.name ≡ n → find n (t ++ d ∷ []) ≡ some d
  find_last [] d found same = find_same d [] (eq_eq_bytes d.name n same)
  find_last (e ∷ t) d found same = by_new e t d (eq_bytes e.name n) refl found (λ g. find_last t d g same)

  -- ---- an entry less

  by_gone : (e : Entry H) (t : List (Entry H)) (b : Bool) → eq_bytes e.name n ≡ b → others n (without n t) ≡ others n t → others n (without n (e ∷ t)) ≡ others n (e ∷ t)
  by_gone e t true s ih = ap (others n) (without_same e t s) ∙ sym (others_same e t s)
  by_gone e t false s ih = ap (others n) (without_other e t s) ∙ others_other e (without n t) s ∙ ap (◌∷◌ e) ih ∙ sym (others_other e t s)

  pub others_without : (t : List (Entry H)) → others n (without n t) ≡ others n t
  unfolding without
  others_without [] = refl
  others_without (e ∷ t) = by_gone e t (eq_bytes e.name n) refl (others_without t)

  -- a name that stands nowhere is not found
  not_among : (t : List (Entry H)) → Every (λ m. m ≡ n → ⊥) (names t) → find n t ≡ none
  unfolding find
  not_among [] h = refl
  not_among (e ∷ t) (Every.more d h) = find_other e t (ne_eq_bytes e.name n d) ∙ not_among t h

  by_absent : (e : Entry H) (t : List (Entry H)) (b : Bool) → eq_bytes e.name n ≡ b → Every (λ m. m ≡ e.name → ⊥) (names t) → find n (without n t) ≡ none → find n (without n (e ∷ t)) ≡ none
  by_absent e t true s apart ih =
      ap (find n) (without_same e t s) ∙ not_among t (subst (λ (k : List ℕ). Every (λ m. m ≡ k → ⊥) (names t)) (eq_bytes_true e.name n s) apart)
  by_absent e t false s apart ih = ap (find n) (without_other e t s) ∙ find_other e (without n t) s ∙ ih

  pub find_without : (t : List (Entry H)) → Distinct (names t) → find n (without n t) ≡ none
  unfolding without find
  find_without [] d = refl
  find_without (e ∷ t) (Distinct.more apart d) = by_absent e t (eq_bytes e.name n) refl apart (find_without t d)

  -- where the name is not found, the others are all
  by_nowhere : (e : Entry H) (t : List (Entry H)) (b : Bool) → eq_bytes e.name n ≡ b → find n (e ∷ t) ≡ none → (find n t ≡ none → others n t ≡ t) → others n (e ∷ t) ≡ e ∷ t
  by_nowhere e t true s found ih = absurd (some-ne-none e (sym (find_same e t s) ∙ found))
  by_nowhere e t false s found ih = others_other e t s ∙ ap (◌∷◌ e) (ih (sym (find_other e t s) ∙ found))

  others_all : (t : List (Entry H)) → find n t ≡ none → others n t ≡ t
  unfolding others
  others_all [] found = refl
  others_all (e ∷ t) found = by_nowhere e t (eq_bytes e.name n) refl found (λ g. others_all t g)

  -- so a table from which the name is gone, and nothing else, has the others and no more
  pub gone_others : (t u : List (Entry H)) → find n u ≡ none → others n u ≡ others n t → u ≡ others n t
  gone_others t u found same = sym (others_all u found) ∙ same
