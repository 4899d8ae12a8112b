-- One note more at the end, and the last note about a name. Assumes nothing.
use Prim.Native.Nat.{ℕ}
use mathlib.Core.Bool.{Bool, true, false, cond}
use mathlib.Core.Path.{◌≡◌, refl, sym, ap, subst, ◌∙◌}
use mathlib.Core.List.{List, [], ◌∷◌, ◌++◌}
use mathlib.Core.Option.{Option, none, some, none-ne-some}
use Rattle.base.specs.Bytes.{eq_bytes}
use Rattle.base.proofs.Tests.{eq_bytes_true, eq_eq_bytes}
use Rattle.slots.specs.Entry.{names, Distinct}
use Rattle.slots.specs.Form.{TableEntry}
use Rattle.table.specs.Steps.{find, changed, without}
use Rattle.table.proofs.OthersLaws.{find_same, find_other, changed_same, changed_other, without_same, without_other, find_last, find_without}
use Rattle.table.proofs.SoundLaws.{distinct_without, distinct_last}
use Rattle.book.specs.Notes.{Note, standing_by, noted, after_from}
use Rattle.book.specs.LastNote.{about, said, last_said}

-- ---- one note more

pub after_snoc : (cs : List Note) (c : Note) (t : List TableEntry) → after_from (cs ++ c ∷ []) t ≡ noted c (after_from cs t)
unfolding after_from
after_snoc [] c t = refl
after_snoc (d ∷ cs) c t = after_snoc cs c (noted d t)

pub after_append : (cs ds : List Note) (t : List TableEntry) → after_from (cs ++ ds) t ≡ after_from ds (after_from cs t)
unfolding after_from
after_append [] ds t = refl
after_append (c ∷ cs) ds t = after_append cs ds (noted c t)

pub said_snoc : (n : List ℕ) (o : Option TableEntry) (cs : List Note) (c : Note) → last_said n o (cs ++ c ∷ []) ≡ cond (eq_bytes (about c) n) (said c) (last_said n o cs)
unfolding last_said
said_snoc n o [] c = refl
said_snoc n o (d ∷ cs) c = said_snoc n (cond (eq_bytes (about d) n) (said d) o) cs c

-- ---- what is found under a name after a note

-- by what was found there
pub by_find : {P : Type 0} (n : List ℕ) (t : List TableEntry) → (find n t ≡ none → P) → ((e : TableEntry) → find n t ≡ some e → P) → P
by_find {P} n t absent there = go (find n t) refl
  where
    go : (o : Option TableEntry) → find n t ≡ o → P
    go none f = absent f
    go (some e) f = there e f

-- a note, by what it finds
pub noted_new : (e : TableEntry) (t : List TableEntry) → find e.name t ≡ none → noted (Note.stands e) t ≡ standing_by none e t
unfolding noted
noted_new e t f = ap (λ (o : Option TableEntry). standing_by o e t) f

pub noted_held : (e d : TableEntry) (t : List TableEntry) → find e.name t ≡ some d → noted (Note.stands e) t ≡ standing_by (some d) e t
unfolding noted
noted_held e d t f = ap (λ (o : Option TableEntry). standing_by o e t) f

pub noted_gone : (n : List ℕ) (t : List TableEntry) → noted (Note.gone n) t ≡ without n t
unfolding noted
noted_gone n t = refl

-- by whether an entry has the name
by_name : {P : Type 0} (n : List ℕ) (d : TableEntry) → (eq_bytes d.name n ≡ true → P) → (eq_bytes d.name n ≡ false → P) → P
by_name {P} n d same other = go (eq_bytes d.name n) refl
  where
    go : (b : Bool) → eq_bytes d.name n ≡ b → P
    go true s = same s
    go false s = other s

module _ (n : List ℕ) where
  pub find_nothing : find {H = List ℕ} n [] ≡ none
  unfolding find
  find_nothing = refl

  -- the entry put in its own place is found
  put_found : (e d : TableEntry) (t : List TableEntry) → e.name ≡ n → find n t ≡ some d → find n (changed n (λ _. e) t) ≡ some e
  put_found e d [] own found = absurd (none-ne-some d (sym find_nothing ∙ found))
  put_found e d (c ∷ t) own found =
      let ih = put_found e d t own in
      by_name n c
      (λ s. ap (find n) (changed_same n c t (λ _. e) s) ∙ find_same n e t (eq_eq_bytes e.name n own))
      (λ s. ap (find n) (changed_other n c t (λ _. e) s) ∙ find_other n c (changed n (λ _. e) t) s ∙ ih (sym (find_other n c t s) ∙ found))

  -- another name is found as before
  module _ (m : List ℕ) (apart : eq_bytes m n ≡ false) where
    not_n : (c : TableEntry) → eq_bytes c.name m ≡ true → eq_bytes c.name n ≡ false
    not_n c s = ap (λ (k : List ℕ). eq_bytes k n) (eq_bytes_true c.name m s) ∙ apart

    more_found : (c : TableEntry) (t u : List TableEntry) → find n t ≡ find n u → find n (c ∷ t) ≡ find n (c ∷ u)
    unfolding find
    more_found c t u e = ap (cond (eq_bytes c.name n) (some c)) e

    other_changed : (e : TableEntry) (t : List TableEntry) → e.name ≡ m → find n (changed m (λ _. e) t) ≡ find n t
    unfolding changed
    other_changed e [] own = refl
    other_changed e (c ∷ t) own =
        let ih = other_changed e t own in
        by_name m c
        (λ s. ap (find n) (changed_same m c t (λ _. e) s) ∙ find_other n e t (ap (λ (k : List ℕ). eq_bytes k n) own ∙ apart) ∙ sym (find_other n c t (not_n c s)))
        (λ s. ap (find n) (changed_other m c t (λ _. e) s) ∙ more_found c (changed m (λ _. e) t) t ih)

    other_without : (t : List TableEntry) → find n (without m t) ≡ find n t
    unfolding without
    other_without [] = refl
    other_without (c ∷ t) =
        let ih = other_without t in
        by_name m c
        (λ s. ap (find n) (without_same m c t s) ∙ sym (find_other n c t (not_n c s)))
        (λ s. ap (find n) (without_other m c t s) ∙ more_found c (without m t) t ih)

    other_last : (e : TableEntry) (t : List TableEntry) → e.name ≡ m → find n (t ++ e ∷ []) ≡ find n t
    other_last e [] own = find_other n e [] (ap (λ (k : List ℕ). eq_bytes k n) own ∙ apart)
    other_last e (c ∷ t) own = more_found c (t ++ e ∷ []) t (other_last e t own)

  -- a note about the name
  found_own : (c : Note) (t : List TableEntry) → Distinct (names t) → about c ≡ n → find n (noted c t) ≡ said c
  found_own (Note.gone m) t d own = ap (find n) (noted_gone m t ∙ ap (λ (k : List ℕ). without k t) own) ∙ find_without n t d
  found_own (Note.stands e) t d own =
      by_find e.name t
      (λ f. ap (find n) (noted_new e t f) ∙ find_last n t e (ap (λ (k : List ℕ). find k t) (sym own) ∙ f) own)
      (λ h f. ap (find n) (noted_held e h t f ∙ ap (λ (k : List ℕ). changed k (λ _. e) t) own) ∙ put_found e h t own (ap (λ (k : List ℕ). find k t) (sym own) ∙ f))

  -- and about another
  found_other : (c : Note) (t : List TableEntry) → eq_bytes (about c) n ≡ false → find n (noted c t) ≡ find n t
  found_other (Note.gone m) t s = ap (find n) (noted_gone m t) ∙ other_without m s t
  found_other (Note.stands e) t s =
      by_find e.name t
      (λ f. ap (find n) (noted_new e t f) ∙ other_last e.name s e t refl)
      (λ h f. ap (find n) (noted_held e h t f) ∙ other_changed e.name s e t refl)

  pub found_noted : (c : Note) (t : List TableEntry) → Distinct (names t) → find n (noted c t) ≡ cond (eq_bytes (about c) n) (said c) (find n t)
  found_noted c t d = go (eq_bytes (about c) n) refl
    where
      go : (b : Bool) → eq_bytes (about c) n ≡ b → find n (noted c t) ≡ cond b (said c) (find n t)
      go true s = found_own c t d (eq_bytes_true (about c) n s)
      go false s = found_other c t s

-- ---- no name comes to stand twice

names_put : (n : List ℕ) (e : TableEntry) (t : List TableEntry) → e.name ≡ n → names (changed n (λ _. e) t) ≡ names t
unfolding changed
names_put n e [] own = refl
names_put n e (c ∷ t) own =
    let ih = names_put n e t own in
    by_name n c
    (λ s. ap names (changed_same n c t (λ _. e) s) ∙ ap (λ (k : List ℕ). k ∷ names t) (own ∙ sym (eq_bytes_true c.name n s)))
    (λ s. ap names (changed_other n c t (λ _. e) s) ∙ ap (◌∷◌ c.name) ih)

pub distinct_noted : (c : Note) (t : List TableEntry) → Distinct (names t) → Distinct (names (noted c t))
distinct_noted (Note.gone n) t d = subst (λ (u : List TableEntry). Distinct (names u)) (sym (noted_gone n t)) (distinct_without n t d)
distinct_noted (Note.stands e) t d =
    by_find e.name t
    (λ f. subst (λ (u : List TableEntry). Distinct (names u)) (sym (noted_new e t f)) (distinct_last e.name t e refl f d))
    (λ h f. subst Distinct (sym (ap names (noted_held e h t f) ∙ names_put e.name e t refl)) d)

pub distinct_after : (cs : List Note) (t : List TableEntry) → Distinct (names t) → Distinct (names (after_from cs t))
unfolding after_from
distinct_after [] t d = d
distinct_after (c ∷ cs) t d = distinct_after cs (noted c t) (distinct_noted c t d)

-- what is found under a name is what the last note about it says
pub found_after : (n : List ℕ) (cs : List Note) (t : List TableEntry) → Distinct (names t) → find n (after_from cs t) ≡ last_said n (find n t) cs
unfolding after_from last_said
found_after n [] t d = refl
found_after n (c ∷ cs) t d = found_after n cs (noted c t) (distinct_noted c t d) ∙ ap (λ (o : Option TableEntry). last_said n o cs) (found_noted n c t d)
