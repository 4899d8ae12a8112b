-- Where a name stands in a list of entries, and that none stands twice. Assumes nothing.
use Prim.Native.Nat.{ℕ, suc, ◌+◌, ◌-◌, ◌≤◌, ◌<◌}
use mathlib.Core.Bool.{Bool, cond}
use mathlib.Core.Path.{◌≡◌, refl, sym, ap, ◌∙◌}
use mathlib.Core.List.{List, [], ◌∷◌, ◌++◌}
use native.Mathlib.Nat.{add-zero, zero-add}
use native.Mathlib.Omega.{arith}
use lib.ListN.{length, take, drop, length-drop, take-append-drop}
use lib.Seq.{length-take-le}
use Rattle.base.specs.Logic.{Every}
use Rattle.base.proofs.Lists.{drop_next}
use Rattle.base.proofs.Tests.{eq_eq_bytes, ne_eq_bytes}
use Rattle.slots.specs.Entry.{Entry, names, position, Distinct}

module _ {H : Type 0} where
  -- the entry at i is e, and r are those after it
  pub record EntryAt (t : List (Entry H)) (i : ℕ) (e : Entry H) (r : List (Entry H)) : Type 0 where
    pub cut : drop i t ≡ e ∷ r
    pub within : i < length t
    pub next : drop (i + 1) t ≡ r

  pub entry_at : (t : List (Entry H)) (i : ℕ) (e : Entry H) (r : List (Entry H)) → drop i t ≡ e ∷ r → EntryAt t i e r
  entry_at t i e r cut =
      let some : suc (length r) ≡ length t - i = sym (ap length cut) ∙ length-drop i t in
      record { cut = cut; within = omega arith; next = drop_next t i e r cut }

  -- ---- the search

  position_same : (n : List ℕ) (e : Entry H) (r : List (Entry H)) → e.name ≡ n → position n (e ∷ r) ≡ 0
  unfolding position
  position_same n e r s = ap (λ (b : Bool). cond b 0 (suc (position n r))) (eq_eq_bytes e.name n s)

  position_other : (n : List ℕ) (e : Entry H) (r : List (Entry H)) → (e.name ≡ n → ⊥) → position n (e ∷ r) ≡ suc (position n r)
  unfolding position
  position_other n e r d = ap (λ (b : Bool). cond b 0 (suc (position n r))) (ne_eq_bytes e.name n d)

  -- the first i entries have other names
  pub record Searched (n : List ℕ) (t : List (Entry H)) (i : ℕ) : Type 0 where
    pub low : i ≤ length t
    pub on : position n t ≡ i + position n (drop i t)

  pub searched_none : (n : List ℕ) (t : List (Entry H)) → Searched n t 0
  searched_none n t = record { low = omega arith; on = sym (zero-add (position n t)) }

  module _ (n : List ℕ) (t : List (Entry H)) (i : ℕ) (s : Searched n t i) where
    pub searched_end : drop i t ≡ [] → i ≡ position n t
    unfolding position
    searched_end e = sym (s.on ∙ ap (λ (r : List (Entry H)). i + position n r) e ∙ add-zero i)

    module _ (e : Entry H) (r : List (Entry H)) (at : EntryAt t i e r) where
      pub searched_here : e.name ≡ n → i ≡ position n t
      searched_here same = sym (s.on ∙ ap (λ (l : List (Entry H)). i + position n l) at.cut ∙ ap (λ (k : ℕ). i + k) (position_same n e r same) ∙ add-zero i)

      pub searched_more : (e.name ≡ n → ⊥) → Searched n t (i + 1)
      searched_more other =
          let on : position n t ≡ i + suc (position n r) = s.on ∙ ap (λ (l : List (Entry H)). i + position n l) at.cut ∙ ap (λ (k : ℕ). i + k) (position_other n e r other) in
          let next : position n (drop (i + 1) t) ≡ position n r = ap (position n) at.next in
          record { low = omega (arith, at.within); on = omega arith }

  -- ---- no name twice

  -- each of the entries r is found where it stands, the first of them at i
  abbrev pub Own : List (Entry H) → ℕ → List (Entry H) → Type 0
  Own t i [] = Unit {0}
  Own t i (e ∷ r) = (position e.name t ≡ i) × Own t (i + 1) r

  apart : (t : List (Entry H)) (n : List ℕ) (i j : ℕ) (r : List (Entry H)) → position n t ≡ i → i < j → Own t j r → Every (λ m. m ≡ n → ⊥) (names r)
  apart t n i j [] p lt o = Every.none
  apart t n i j (e ∷ r) p lt o =
      Every.more (λ same. let q : position e.name t ≡ position n t = ap (λ (m : List ℕ). position m t) same in omega (arith, o.0)) (apart t n i (j + 1) r p (omega arith) o.1)

  own_distinct : (t : List (Entry H)) (i : ℕ) (r : List (Entry H)) → Own t i r → Distinct (names r)
  own_distinct t i [] o = Distinct.none
  own_distinct t i (e ∷ r) o = Distinct.more (apart t e.name i (i + 1) r o.0 (omega arith) o.1) (own_distinct t (i + 1) r o.1)

  -- the first i entries are found where they stand
  pub record Compared (t : List (Entry H)) (i : ℕ) : Type 0 where
    pub low : i ≤ length t
    pub on : Own t i (drop i t) → Own t 0 t

  pub compared_none : (t : List (Entry H)) → Compared t 0
  compared_none t = record { low = omega arith; on = λ o. o }

  module _ (t : List (Entry H)) (i : ℕ) (c : Compared t i) where
    pub compared_end : drop i t ≡ [] → Distinct (names t)
    compared_end e = own_distinct t 0 t (c.on (rw e tt))

    pub compared_more : (e : Entry H) (r : List (Entry H)) → EntryAt t i e r → position e.name t ≡ i → Compared t (i + 1)
    compared_more e r at found = record { low = omega (arith, at.within); on = λ o. c.on (rw at.cut (found, rw at.next at o)) }

  -- and where none stands twice, each is found where it stands

  differs : (p r : List (Entry H)) (e : Entry H) (n : List ℕ) → Every (λ m. m ≡ n → ⊥) (names (p ++ e ∷ r)) → e.name ≡ n → ⊥
  differs [] r e n (Every.more h hs) = h
  differs (f ∷ p) r e n (Every.more h hs) = differs p r e n hs

  position_own : (p r : List (Entry H)) (e : Entry H) → Distinct (names (p ++ e ∷ r)) → position e.name (p ++ e ∷ r) ≡ length p
  position_own [] r e d = position_same e.name e r refl
  position_own (f ∷ p) r e (Distinct.more h d) =
      position_other e.name f (p ++ e ∷ r) (λ same. differs p r e f.name h (sym same)) ∙ ap suc (position_own p r e d)

  pub distinct_own : (t : List (Entry H)) (i : ℕ) (e : Entry H) (r : List (Entry H)) → EntryAt t i e r → Distinct (names t) → position e.name t ≡ i
  distinct_own t i e r at d =
      let cut : t ≡ take i t ++ e ∷ r = sym (take-append-drop i t) ∙ ap (λ (l : List (Entry H)). take i t ++ l) at.cut in
      ap (position e.name) cut ∙ position_own (take i t) r e (rw cut at d) ∙ length-take-le i t (omega (arith, at.within))
