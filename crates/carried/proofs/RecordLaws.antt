-- The records of one name: one more, some gone, and which are then there of each type. Assumes nothing.
use Prim.Native.Nat.{ℕ}
use mathlib.Core.Bool.{Bool, true, false}
use mathlib.Core.Path.{◌≡◌, refl, sym, ap, subst, ◌∙◌}
use mathlib.Core.List.{List, [], ◌∷◌, ◌++◌, append-nil, cons≢nil}
use mathlib.Core.Option.{none}
use lib.Dec.{eqb}
use borrow.Author.Tests.{eqb-true, eqb-false, eq-eqb, ne_eqb}
use Rattle.base.specs.Logic.{Every}
use Rattle.slots.specs.Effect.{entered, refreshed, deleted}
use Rattle.slots.specs.Entry.{address_of}
use Rattle.slots.specs.Form.{TableEntry}
use Rattle.slots.specs.declared.Family.{Family}
use Rattle.slots.specs.declared.Family.TheVariants.{V4, V6}
use Rattle.update.specs.Message.{type_a, type_aaaa, type_dhcid}
use Rattle.update.specs.Updates.{address_record}
use Rattle.carried.specs.Holds.{listed, Has}
use Rattle.carried.specs.Zone.{Datum, is_empty, of_type, less_those}

abbrev pub datum : ℕ → List ℕ → Datum
datum k y = record { rtype = k; rdata = y }

-- ---- one record

module _ (k : ℕ) (d : Datum) (ds : List Datum) where
  pub type_same : eqb d.rtype k ≡ true → of_type k (d ∷ ds) ≡ d.rdata ∷ of_type k ds
  unfolding of_type
  type_same s = rw s

  pub type_other : eqb d.rtype k ≡ false → of_type k (d ∷ ds) ≡ of_type k ds
  unfolding of_type
  type_other s = rw s

module _ (those : Datum → Bool) (d : Datum) (ds : List Datum) where
  goes : those d ≡ true → less_those those (d ∷ ds) ≡ less_those those ds
  unfolding less_those
  goes s = rw s

  stays : those d ≡ false → less_those those (d ∷ ds) ≡ d ∷ less_those those ds
  unfolding less_those
  stays s = rw s

pub none_of_type : (k : ℕ) → of_type k [] ≡ []
unfolding of_type
none_of_type k = refl

more_by : (k : ℕ) (c d : Datum) (ds : List Datum) (b : Bool) → eqb c.rtype k ≡ b → of_type k (ds ++ d ∷ []) ≡ of_type k ds ++ of_type k (d ∷ [])
    → of_type k (c ∷ ds ++ d ∷ []) ≡ of_type k (c ∷ ds) ++ of_type k (d ∷ [])
more_by k c d ds true s ih = type_same k c (ds ++ d ∷ []) s ∙ ap (◌∷◌ c.rdata) ih ∙ sym (ap (λ (l : List (List ℕ)). l ++ of_type k (d ∷ [])) (type_same k c ds s))
more_by k c d ds false s ih = type_other k c (ds ++ d ∷ []) s ∙ ih ∙ sym (ap (λ (l : List (List ℕ)). l ++ of_type k (d ∷ [])) (type_other k c ds s))

type_more : (k : ℕ) (ds : List Datum) (d : Datum) → of_type k (ds ++ d ∷ []) ≡ of_type k ds ++ of_type k (d ∷ [])
type_more k [] d = sym (ap (λ (l : List (List ℕ)). l ++ of_type k (d ∷ [])) (none_of_type k))
type_more k (c ∷ ds) d = more_by k c d ds (eqb c.rtype k) refl (type_more k ds d)

-- ---- records gone

-- a test of records of the type k, known by their data
of_type_lem : (those : Datum → Bool) (k : ℕ) (d : Datum) (b : Bool) → eqb d.rtype k ≡ true → those (datum k d.rdata) ≡ b → those d ≡ b
of_type_lem those k d b s e = ap (λ (j : ℕ). those (datum j d.rdata)) (eqb-true d.rtype k s) ∙ e

module _ (those : Datum → Bool) (k : ℕ) where
  untouched_by : ((y : List ℕ) → those (datum k y) ≡ false) → (d : Datum) (ds : List Datum) (b c : Bool) → eqb d.rtype k ≡ b → those d ≡ c
      → of_type k (less_those those ds) ≡ of_type k ds → of_type k (less_those those (d ∷ ds)) ≡ of_type k (d ∷ ds)
  untouched_by off d ds true c s g ih =
      ap (of_type k) (stays those d ds (of_type_lem those k d false s (off d.rdata))) ∙ type_same k d (less_those those ds) s ∙ ap (◌∷◌ d.rdata) ih ∙ sym (type_same k d ds s)
  untouched_by off d ds false true s g ih = ap (of_type k) (goes those d ds g) ∙ ih ∙ sym (type_other k d ds s)
  untouched_by off d ds false false s g ih = ap (of_type k) (stays those d ds g) ∙ type_other k d (less_those those ds) s ∙ ih ∙ sym (type_other k d ds s)

  -- none of this type is picked out
  untouched : ((y : List ℕ) → those (datum k y) ≡ false) → (ds : List Datum) → of_type k (less_those those ds) ≡ of_type k ds
  unfolding less_those
  untouched off [] = refl
  untouched off (d ∷ ds) = untouched_by off d ds (eqb d.rtype k) (those d) refl refl (untouched off ds)

  -- all of this type with these data are
  abbrev pub AllPicked : List (List ℕ) → Type 0
  AllPicked = Every (λ y. those (datum k y) ≡ true)

  head_picked : {y : List ℕ} {ys : List (List ℕ)} → AllPicked (y ∷ ys) → those (datum k y) ≡ true
  head_picked (Every.more p ps) = p

  tail_picked : {y : List ℕ} {ys : List (List ℕ)} → AllPicked (y ∷ ys) → AllPicked ys
  tail_picked (Every.more p ps) = ps

  emptied_by : (d : Datum) (ds : List Datum) (b c : Bool) → eqb d.rtype k ≡ b → those d ≡ c → AllPicked (of_type k (d ∷ ds))
      → (AllPicked (of_type k ds) → of_type k (less_those those ds) ≡ []) → of_type k (less_those those (d ∷ ds)) ≡ []
  emptied_by d ds true c s g all ih =
      let picked = subst AllPicked (type_same k d ds s) all in
      ap (of_type k) (goes those d ds (of_type_lem those k d true s (head_picked picked))) ∙ ih (tail_picked picked)
  emptied_by d ds false true s g all ih = ap (of_type k) (goes those d ds g) ∙ ih (subst AllPicked (type_other k d ds s) all)
  emptied_by d ds false false s g all ih =
      ap (of_type k) (stays those d ds g) ∙ type_other k d (less_those those ds) s ∙ ih (subst AllPicked (type_other k d ds s) all)

  emptied : (ds : List Datum) → AllPicked (of_type k ds) → of_type k (less_those those ds) ≡ []
  unfolding less_those
  emptied [] all = none_of_type k
  emptied (d ∷ ds) all = emptied_by d ds (eqb d.rtype k) (those d) refl refl all (λ h. emptied ds h)

-- ---- none left, and some left

nothing_left : (ds : List Datum) → ((k : ℕ) → of_type k ds ≡ []) → ds ≡ []
nothing_left [] h = refl
nothing_left (d ∷ ds) h = absurd (cons≢nil (sym (type_same d.rtype d ds (eq-eqb d.rtype d.rtype refl)) ∙ h d.rtype))

pub some_left : (k : ℕ) (y : List ℕ) (ds : List Datum) → of_type k ds ≡ y ∷ [] → is_empty ds ≡ false
some_left k y [] h = absurd (cons≢nil (sym h ∙ none_of_type k))
some_left k y (d ∷ ds) h = refl

pub some_more : (ds : List Datum) (d : Datum) → is_empty (ds ++ d ∷ []) ≡ false
some_more [] d = refl
some_more (c ∷ ds) d = refl

-- ---- the records of an entry

-- an address put where there was none
pub has_put : (f : Family) (x : List ℕ) (e : TableEntry) (ds : List Datum) → address_of f e ≡ none → Has ds e
    → Has (ds ++ datum (address_record f) x ∷ []) (refreshed f x e)
unfolding of_type
has_put V4 x e ds free h = record {
  a = type_more type_a ds (datum type_a x) ∙ ap (λ (l : List (List ℕ)). l ++ x ∷ []) (h.a ∙ ap listed free);
  aaaa = type_more type_aaaa ds (datum type_a x) ∙ append-nil _ ∙ h.aaaa;
  dhcid = type_more type_dhcid ds (datum type_a x) ∙ append-nil _ ∙ h.dhcid;
  others = λ k p q r.
      type_more k ds (datum type_a x) ∙ ap (λ (l : List (List ℕ)). l ++ of_type k (datum type_a x ∷ [])) (h.others k p q r)
      ∙ type_other k (datum type_a x) [] (ne_eqb type_a k (λ s. p (sym s)));
}
has_put V6 x e ds free h = record {
  a = type_more type_a ds (datum type_aaaa x) ∙ append-nil _ ∙ h.a;
  aaaa = type_more type_aaaa ds (datum type_aaaa x) ∙ ap (λ (l : List (List ℕ)). l ++ x ∷ []) (h.aaaa ∙ ap listed free);
  dhcid = type_more type_dhcid ds (datum type_aaaa x) ∙ append-nil _ ∙ h.dhcid;
  others = λ k p q r.
      type_more k ds (datum type_aaaa x) ∙ ap (λ (l : List (List ℕ)). l ++ of_type k (datum type_aaaa x ∷ [])) (h.others k p q r)
      ∙ type_other k (datum type_aaaa x) [] (ne_eqb type_aaaa k (λ s. q (sym s)));
}

-- a new name's
pub has_new : (f : Family) (n d x : List ℕ) → Has (datum (address_record f) x ∷ datum type_dhcid d ∷ []) (entered n d f x)
unfolding of_type
has_new V4 n d x = record {
  a = refl;
  aaaa = refl;
  dhcid = refl;
  others = λ k p q r.
      type_other k (datum type_a x) (datum type_dhcid d ∷ []) (ne_eqb type_a k (λ s. p (sym s))) ∙ type_other k (datum type_dhcid d) [] (ne_eqb type_dhcid k (λ s. r (sym s)));
}
has_new V6 n d x = record {
  a = refl;
  aaaa = refl;
  dhcid = refl;
  others = λ k p q r.
      type_other k (datum type_aaaa x) (datum type_dhcid d ∷ []) (ne_eqb type_aaaa k (λ s. q (sym s))) ∙ type_other k (datum type_dhcid d) [] (ne_eqb type_dhcid k (λ s. r (sym s)));
}

-- records of one type alone are picked out
abbrev pub Only : ℕ → (Datum → Bool) → Type 0
Only k those = (j : ℕ) (y : List ℕ) → eqb j k ≡ false → those (datum j y) ≡ false

-- all of a family's addresses gone
pub has_less : (f : Family) (those : Datum → Bool) (e : TableEntry) (ds : List Datum) → Only (address_record f) those
    → AllPicked those (address_record f) (listed (address_of f e)) → Has ds e → Has (less_those those ds) (deleted f e)
has_less V4 those e ds only all h = record {
  a = emptied those type_a ds (subst (AllPicked those type_a) (sym h.a) all);
  aaaa = untouched those type_aaaa (λ y. only type_aaaa y refl) ds ∙ h.aaaa;
  dhcid = untouched those type_dhcid (λ y. only type_dhcid y refl) ds ∙ h.dhcid;
  others = λ k p q r. untouched those k (λ y. only k y (ne_eqb k type_a p)) ds ∙ h.others k p q r;
}
has_less V6 those e ds only all h = record {
  a = untouched those type_a (λ y. only type_a y refl) ds ∙ h.a;
  aaaa = emptied those type_aaaa ds (subst (AllPicked those type_aaaa) (sym h.aaaa) all);
  dhcid = untouched those type_dhcid (λ y. only type_dhcid y refl) ds ∙ h.dhcid;
  others = λ k p q r. untouched those k (λ y. only k y (ne_eqb k type_aaaa q)) ds ∙ h.others k p q r;
}

-- the last record gone, a DHCID
by_type : {P : ℕ → Type 0} → P type_a → P type_aaaa → P type_dhcid → ((k : ℕ) → (k ≡ type_a → ⊥) → (k ≡ type_aaaa → ⊥) → (k ≡ type_dhcid → ⊥) → P k) → (k : ℕ) → P k
by_type {P} a b c o k = go (eqb k type_a) (eqb k type_aaaa) (eqb k type_dhcid) refl refl refl
  where
    go : (u v w : Bool) → eqb k type_a ≡ u → eqb k type_aaaa ≡ v → eqb k type_dhcid ≡ w → P k
    go true v w p q r = subst P (sym (eqb-true k type_a p)) a
    go false true w p q r = subst P (sym (eqb-true k type_aaaa q)) b
    go false false true p q r = subst P (sym (eqb-true k type_dhcid r)) c
    go false false false p q r = o k (λ z. eqb-false k type_a p z) (λ z. eqb-false k type_aaaa q z) (λ z. eqb-false k type_dhcid r z)

pub none_left : (those : Datum → Bool) (e : TableEntry) (ds : List Datum) → Only type_dhcid those → e.a ≡ none → e.aaaa ≡ none
    → AllPicked those type_dhcid (listed e.holder) → Has ds e → less_those those ds ≡ []
none_left those e ds only a b all h =
    nothing_left (less_those those ds)
    (by_type {P = λ k. of_type k (less_those those ds) ≡ []} (untouched those type_a (λ y. only type_a y refl) ds ∙ h.a ∙ ap listed a)
    (untouched those type_aaaa (λ y. only type_aaaa y refl) ds ∙ h.aaaa ∙ ap listed b) (emptied those type_dhcid ds (subst (AllPicked those type_dhcid) (sym h.dhcid) all))
    (λ k p q r. untouched those k (λ y. only k y (ne_eqb k type_dhcid r)) ds ∙ h.others k p q r))
