-- What a step leaves is sound. Assumes nothing.
use Prim.Native.Nat.{ℕ, suc, ◌≤◌, ◌<◌}
use mathlib.Core.Bool.{Bool, true, false}
use mathlib.Core.Path.{◌≡◌, refl, sym, ap, subst, ◌∙◌}
use mathlib.Core.List.{List, [], ◌∷◌, ◌++◌}
use mathlib.Core.Option.{Option, none, some, some-ne-none}
use native.Mathlib.Omega.{arith}
use lib.ListN.{length, length-append, length-map}
use Rattle.base.specs.Bytes.{eq_bytes}
use Rattle.base.specs.Dhcid.{well_formed}
use Rattle.base.specs.Logic.{Every}
use Rattle.base.proofs.Lists.{every_append, map_append}
use Rattle.base.proofs.Tests.{eq_eq_bytes, ne_eq_bytes}
use Rattle.name.specs.Name.{Proper, canonical}
use Rattle.slots.specs.Effect.{entered, refreshed, taken_over, deleted}
use Rattle.slots.specs.Entry.{names, Distinct, address_of, address_size, other, with_address, with_holder}
use Rattle.slots.specs.Form.{TableEntry, flag, flags, WellFormed}
use Rattle.slots.specs.declared.Family.{Family}
use Rattle.slots.specs.declared.Family.TheVariants.{V4, V6}
use Rattle.table.specs.Steps.{find, changed, without}
use Rattle.table.proofs.OthersLaws.{find_same, find_other, changed_same, changed_other, without_same, without_other, names_changed}

-- ---- one entry

put_well_formed : (f : Family) (x : List ℕ) (e : TableEntry) → length x ≡ address_size f → WellFormed e → WellFormed (with_address f (some x) e)
unfolding flags
put_well_formed V4 x e size w = record { proper = w.proper; lower = w.lower; a = size; aaaa = w.aaaa; dhcid = w.dhcid; some = omega arith }
put_well_formed V6 x e size w = record { proper = w.proper; lower = w.lower; a = w.a; aaaa = size; dhcid = w.dhcid; some = omega arith }

held_flag : (e : TableEntry) (d : List ℕ) → e.holder ≡ some d → 1 ≤ flags e
unfolding flags
held_flag e d held = let four : flag 4 e.holder ≡ 4 = ap (flag 4) held in omega arith

-- without an address, where the client still holds the name
drop_well_formed : (f : Family) (e : TableEntry) (d : List ℕ) → e.holder ≡ some d → WellFormed e → WellFormed (with_address f none e)
unfolding flags
drop_well_formed V4 e d held w =
    record { proper = w.proper; lower = w.lower; a = tt; aaaa = w.aaaa; dhcid = w.dhcid; some = let four : flag 4 e.holder ≡ 4 = ap (flag 4) held in omega arith }
drop_well_formed V6 e d held w =
    record { proper = w.proper; lower = w.lower; a = w.a; aaaa = tt; dhcid = w.dhcid; some = let four : flag 4 e.holder ≡ 4 = ap (flag 4) held in omega arith }

hold_well_formed : (d : List ℕ) (e : TableEntry) → well_formed d ≡ true → WellFormed e → WellFormed (with_holder d e)
unfolding flags
hold_well_formed d e good w = record { proper = w.proper; lower = w.lower; a = w.a; aaaa = w.aaaa; dhcid = good; some = omega arith }

module _ (d : List ℕ) (f : Family) (x : List ℕ) (good : well_formed d ≡ true) (size : length x ≡ address_size f) where
  pub entered_well_formed : (n : List ℕ) → Proper n → canonical n ≡ n → WellFormed (entered n d f x)
  entered_well_formed n p c =
      let bare : TableEntry = record { name = n; a = none; aaaa = none; holder = some d } in
      put_well_formed f x bare size (record { proper = p; lower = c; a = tt; aaaa = tt; dhcid = good; some = held_flag bare d refl })

  pub taken_well_formed : (e : TableEntry) → WellFormed e → WellFormed (taken_over d f x e)
  taken_well_formed e w = put_well_formed f x (with_address (other f) none (with_holder d e)) size (drop_well_formed (other f) (with_holder d e) d refl (hold_well_formed d e good w))

  pub refreshed_well_formed : (e : TableEntry) → WellFormed e → WellFormed (refreshed f x e)
  refreshed_well_formed e w = put_well_formed f x e size w

pub deleted_well_formed : (f : Family) (e : TableEntry) (d : List ℕ) → e.holder ≡ some d → WellFormed e → WellFormed (deleted f e)
deleted_well_formed f e d held w = drop_well_formed f e d held w

-- a step on an entry keeps its name
pub keeps_name : (f : Family) (o : Option (List ℕ)) (e : TableEntry) → (with_address f o e).name ≡ e.name
keeps_name V4 o e = refl
keeps_name V6 o e = refl

pub entered_name : (n d : List ℕ) (f : Family) (x : List ℕ) → (entered n d f x).name ≡ n
entered_name n d V4 x = refl
entered_name n d V6 x = refl

pub taken_keeps_name : (d : List ℕ) (f : Family) (x : List ℕ) (e : TableEntry) → (taken_over d f x e).name ≡ e.name
taken_keeps_name d V4 x e = refl
taken_keeps_name d V6 x e = refl

-- a deleted address is not there, and the holder stays
pub deleted_address : (f : Family) (e : TableEntry) → address_of f (deleted f e) ≡ none
deleted_address V4 e = refl
deleted_address V6 e = refl

pub deleted_holder : (f : Family) (e : TableEntry) → (deleted f e).holder ≡ e.holder
deleted_holder V4 e = refl
deleted_holder V6 e = refl

-- ---- the entries

module _ (n : List ℕ) where
  by_change : {P : TableEntry → Type 0} (f : TableEntry → TableEntry) (e : TableEntry) (t : List TableEntry) (b : Bool) → eq_bytes e.name n ≡ b → P e → Every P t
      → ((d : TableEntry) → find n (e ∷ t) ≡ some d → P d → P (f d)) → (((d : TableEntry) → find n t ≡ some d → P d → P (f d)) → Every P (changed n f t)) → Every P (changed n f (e ∷ t))
  by_change {P} f e t true s p ps g ih = subst (Every P) (sym (changed_same n e t f s)) (Every.more (g e (find_same n e t s) p) ps)
  by_change {P} f e t false s p ps g ih = subst (Every P) (sym (changed_other n e t f s)) (Every.more p (ih (λ d found. g d (find_other n e t s ∙ found))))

  pub every_changed : {P : TableEntry → Type 0} (f : TableEntry → TableEntry) (t : List TableEntry) → Every P t → ((d : TableEntry) → find n t ≡ some d → P d → P (f d)) → Every P (changed n f t)
  unfolding changed
  every_changed f [] h g = Every.none
  every_changed f (e ∷ t) (Every.more p ps) g = by_change f e t (eq_bytes e.name n) refl p ps g (λ k. every_changed f t ps k)

  by_less : {P : TableEntry → Type 0} (e : TableEntry) (t : List TableEntry) (b : Bool) → eq_bytes e.name n ≡ b → P e → Every P t → Every P (without n t) → Every P (without n (e ∷ t))
  by_less {P} e t true s p ps ih = subst (Every P) (sym (without_same n e t s)) ps
  by_less {P} e t false s p ps ih = subst (Every P) (sym (without_other n e t s)) (Every.more p ih)

  pub every_without : {P : TableEntry → Type 0} (t : List TableEntry) → Every P t → Every P (without n t)
  unfolding without
  every_without [] h = Every.none
  every_without (e ∷ t) (Every.more p ps) = by_less e t (eq_bytes e.name n) refl p ps (every_without t ps)

  by_fewer : (e : TableEntry) (t : List TableEntry) (b : Bool) → eq_bytes e.name n ≡ b → length (without n t) ≤ length t → length (without n (e ∷ t)) ≤ suc (length t)
  by_fewer e t true s ih = omega (arith, ap length (without_same n e t s))
  by_fewer e t false s ih = omega (arith, ap length (without_other n e t s))

  pub length_without : (t : List TableEntry) → length (without n t) ≤ length t
  unfolding without
  length_without [] = omega arith
  length_without (e ∷ t) = by_fewer e t (eq_bytes e.name n) refl (length_without t)

  by_apart : {P : List ℕ → Type 0} (e : TableEntry) (t : List TableEntry) (b : Bool) → eq_bytes e.name n ≡ b → P e.name → Every P (names t) → Every P (names (without n t))
      → Every P (names (without n (e ∷ t)))
  by_apart {P} e t true s p ps ih = subst (λ (u : List TableEntry). Every P (names u)) (sym (without_same n e t s)) ps
  by_apart {P} e t false s p ps ih = subst (λ (u : List TableEntry). Every P (names u)) (sym (without_other n e t s)) (Every.more p ih)

  apart_without : {P : List ℕ → Type 0} (t : List TableEntry) → Every P (names t) → Every P (names (without n t))
  unfolding without
  apart_without [] h = Every.none
  apart_without (e ∷ t) (Every.more p ps) = by_apart e t (eq_bytes e.name n) refl p ps (apart_without t ps)

  by_distinct : (e : TableEntry) (t : List TableEntry) (b : Bool) → eq_bytes e.name n ≡ b → Every (λ m. m ≡ e.name → ⊥) (names t) → Distinct (names t) → Distinct (names (without n t))
      → Distinct (names (without n (e ∷ t)))
  by_distinct e t true s apart d ih = subst (λ (u : List TableEntry). Distinct (names u)) (sym (without_same n e t s)) d
  by_distinct e t false s apart d ih = subst (λ (u : List TableEntry). Distinct (names u)) (sym (without_other n e t s)) (Distinct.more (apart_without t apart) ih)

  pub distinct_without : (t : List TableEntry) → Distinct (names t) → Distinct (names (without n t))
  unfolding without
  distinct_without [] d = Distinct.none
  distinct_without (e ∷ t) (Distinct.more apart d) = by_distinct e t (eq_bytes e.name n) refl apart d (distinct_without t d)

  -- a new name
  by_absent : (e : TableEntry) (t : List TableEntry) (b : Bool) → eq_bytes e.name n ≡ b → find n (e ∷ t) ≡ none → e.name ≡ n → ⊥
  by_absent e t b s found same = some-ne-none e (sym (find_same n e t (eq_eq_bytes e.name n same)) ∙ found)

  by_rest : (e : TableEntry) (t : List TableEntry) → find n (e ∷ t) ≡ none → find n t ≡ none
  by_rest e t found = sym (find_other n e t (ne_eq_bytes e.name n (by_absent e t (eq_bytes e.name n) refl found))) ∙ found

  absent : (t : List TableEntry) → find n t ≡ none → Every (λ m. m ≡ n → ⊥) (names t)
  absent [] found = Every.none
  absent (e ∷ t) found = Every.more (by_absent e t (eq_bytes e.name n) refl found) (absent t (by_rest e t found))

  distinct_more : (ns : List (List ℕ)) → Distinct ns → Every (λ m. m ≡ n → ⊥) ns → Distinct (ns ++ n ∷ [])
  distinct_more [] d h = Distinct.more Every.none Distinct.none
  distinct_more (m ∷ ns) (Distinct.more apart d) (Every.more h hs) =
      Distinct.more (every_append ns (n ∷ []) apart (Every.more (λ same. h (sym same)) Every.none)) (distinct_more ns d hs)

  pub distinct_last : (t : List TableEntry) (e : TableEntry) → e.name ≡ n → find n t ≡ none → Distinct (names t) → Distinct (names (t ++ e ∷ []))
  distinct_last t e same found d =
      subst Distinct (sym (map_append (λ (c : TableEntry). c.name) t (e ∷ []) ∙ ap (λ (m : List ℕ). names t ++ m ∷ []) same)) (distinct_more (names t) d (absent t found))

-- ---- the table

-- the entries u are those of a sound table
pub record SoundEntries (limit : ℕ) (u : List TableEntry) : Type 0 where
  pub each : Every WellFormed u
  pub room : length u ≤ limit
  pub distinct : Distinct (names u)

module _ (limit : ℕ) (t : List TableEntry) (n : List ℕ) (s : SoundEntries limit t) where
  pub sound_changed : (f : TableEntry → TableEntry) → ((e : TableEntry) → (f e).name ≡ e.name) → ((e : TableEntry) → find n t ≡ some e → WellFormed e → WellFormed (f e))
      → SoundEntries limit (changed n f t)
  sound_changed f keeps well =
      let same = names_changed n f keeps t in
      let size : length (changed n f t) ≡ length t = sym (length-map (changed n f t) (λ e. e.name)) ∙ ap length same ∙ length-map t (λ e. e.name) in
      record { each = every_changed n f t s.each well; room = omega (arith, s.room); distinct = subst Distinct (sym same) s.distinct }

  pub sound_last : (e : TableEntry) → WellFormed e → e.name ≡ n → find n t ≡ none → length t < limit → SoundEntries limit (t ++ e ∷ [])
  sound_last e w same found more =
      record {
        each = every_append t (e ∷ []) s.each (Every.more w Every.none);
        room = omega (arith, length-append t (e ∷ []));
        distinct = distinct_last n t e same found s.distinct;
      }

  pub sound_without : SoundEntries limit (without n t)
  sound_without = record { each = every_without n t s.each; room = omega (arith, length_without n t, s.room); distinct = distinct_without n t s.distinct }
