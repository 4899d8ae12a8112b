-- A zone that holds a table, at one name: where it stands, and what a change does there. Assumes nothing.
use Prim.Native.Nat.{ℕ}
use mathlib.Core.Bool.{Bool, true, false, not, true≢false}
use mathlib.Core.Path.{◌≡◌, refl, sym, ap, subst, ◌∙◌}
use mathlib.Core.List.{List, [], ◌∷◌, ◌++◌, append-nil}
use mathlib.Core.Option.{none, some, some-injective, some-ne-none, none-ne-some}
use Rattle.base.specs.Bytes.{eq_bytes}
use Rattle.base.specs.Logic.{Every, Pairwise}
use Rattle.base.proofs.Lists.{pairwise_append}
use Rattle.base.proofs.Tests.{eq_bytes_true, eq_eq_bytes}
use Rattle.slots.specs.Form.{TableEntry}
use Rattle.table.specs.Steps.{find, changed, without}
use Rattle.table.proofs.OthersLaws.{find_same, find_other, changed_same, changed_other, without_same, without_other}
use Rattle.carried.specs.Holds.{Has, NodeOf, Holds}
use Rattle.carried.specs.Zone.{Datum, Node, Zone, is_empty, records_at, of_type, in_use, set_at, with_record, less_those, node_of, without_those}

abbrev pub node : List ℕ → List Datum → Node
node n ds = record { name = n; records = ds }

-- no node of p has the name n
abbrev pub Away : List ℕ → Zone → Type 0
Away n p = Every (λ y. eq_bytes y.name n ≡ false) p

-- ---- past other names, and at the name

module _ (n : List ℕ) where
  at_past : {p : Zone} → Away n p → (z : Zone) → records_at n (p ++ z) ≡ records_at n z
  unfolding records_at
  at_past Every.none z = refl
  at_past (Every.more s h) z = rw s (at_past h z)

  with_past : (d : Datum) {p : Zone} → Away n p → (z : Zone) → with_record n d (p ++ z) ≡ p ++ with_record n d z
  unfolding with_record
  with_past d Every.none z = refl
  with_past d (Every.more {a = x} s h) z = rw s (ap (◌∷◌ x) (with_past d h z))

  without_past : (those : Datum → Bool) {p : Zone} → Away n p → (z : Zone) → without_those n those (p ++ z) ≡ p ++ without_those n those z
  unfolding without_those
  without_past those Every.none z = refl
  without_past those (Every.more {a = x} s h) z = rw s (ap (◌∷◌ x) (without_past those h z))

  self : eq_bytes n n ≡ true
  self = eq_eq_bytes n n refl

  module _ (ds : List Datum) (r : Zone) where
    at_here : records_at n (node n ds ∷ r) ≡ ds
    unfolding records_at
    at_here = rw self

    with_here : (d : Datum) → with_record n d (node n ds ∷ r) ≡ node n (ds ++ d ∷ []) ∷ r
    unfolding with_record
    with_here d = rw self

    without_here : (those : Datum → Bool) → without_those n those (node n ds ∷ r) ≡ node_of n (less_those those ds) r
    unfolding without_those
    without_here those = rw self

  pub used_node : (ds : List Datum) (r : Zone) → is_empty ds ≡ false → node_of n ds r ≡ node n ds ∷ r
  used_node [] r s = absurd (true≢false s)
  used_node (d ∷ ds) r s = refl

  none_at : records_at n [] ≡ []
  unfolding records_at
  none_at = refl

  with_none : (d : Datum) → with_record n d [] ≡ node n (d ∷ []) ∷ []
  unfolding with_record
  with_none d = refl

  module _ {p : Zone} (away : Away n p) where
    pub at_node : (ds : List Datum) (r : Zone) → records_at n (p ++ node n ds ∷ r) ≡ ds
    at_node ds r = at_past away (node n ds ∷ r) ∙ at_here ds r

    pub with_node : (d : Datum) (ds : List Datum) (r : Zone) → with_record n d (p ++ node n ds ∷ r) ≡ p ++ node n (ds ++ d ∷ []) ∷ r
    with_node d ds r = with_past d away (node n ds ∷ r) ∙ ap (◌++◌ p) (with_here ds r d)

    pub without_node : (those : Datum → Bool) (ds : List Datum) (r : Zone) → without_those n those (p ++ node n ds ∷ r) ≡ p ++ node_of n (less_those those ds) r
    without_node those ds r = without_past those away (node n ds ∷ r) ∙ ap (◌++◌ p) (without_here ds r those)

  pub at_nowhere : (z : Zone) → Away n z → records_at n z ≡ []
  at_nowhere z away = ap (records_at n) (sym (append-nil z)) ∙ at_past away [] ∙ none_at

  pub with_nowhere : (d : Datum) (z : Zone) → Away n z → with_record n d z ≡ z ++ node n (d ∷ []) ∷ []
  with_nowhere d z away = ap (with_record n d) (sym (append-nil z)) ∙ with_past d away [] ∙ ap (◌++◌ z) (with_none d)

-- ---- what stands there

module _ (n : List ℕ) (z : Zone) (ds : List Datum) (stands : records_at n z ≡ ds) where
  pub set_is : (k : ℕ) → set_at n k z ≡ of_type k ds
  unfolding set_at
  set_is k = rw stands

  pub use_is : in_use n z ≡ not (is_empty ds)
  unfolding in_use
  use_is = rw stands

-- ---- where a name stands, in the zone and in the table

-- its node with others before and behind it, none of those before of that name, and its entry e likewise
pub record Here (n : List ℕ) (z : Zone) (t : List TableEntry) (e : TableEntry) : Type 0 where
  pub before : Zone
  pub records : List Datum
  pub behind : Zone
  pub entries_before : List TableEntry
  pub entries_behind : List TableEntry
  pub form : z ≡ before ++ node n records ∷ behind
  pub away : Away n before
  pub first : Holds before entries_before
  pub own : NodeOf (node n records) e
  pub last : Holds behind entries_behind
  pub change : (f : TableEntry → TableEntry) → changed n f t ≡ entries_before ++ f e ∷ entries_behind
  pub gone : without n t ≡ entries_before ++ entries_behind

module _ (n : List ℕ) (x : Node) (c : TableEntry) (z : Zone) (t : List TableEntry) (h : NodeOf x c) where
  its : {b : Bool} → eq_bytes x.name n ≡ b → eq_bytes c.name n ≡ b
  its s = ap (λ (m : List ℕ). eq_bytes m n) (sym h.same) ∙ s

  at_first : eq_bytes x.name n ≡ true → Holds z t → Here n (x ∷ z) (c ∷ t) c
  at_first s hs =
      let same : x.name ≡ n = eq_bytes_true x.name n s in
      record {
        before = [];
        records = x.records;
        behind = z;
        entries_before = [];
        entries_behind = t;
        form = ap (λ (m : List ℕ). node m x.records ∷ z) same;
        away = Every.none;
        first = Pairwise.none;
        own = record { same = sym same ∙ h.same; used = h.used; has = h.has };
        last = hs;
        change = λ f. changed_same n c t f (its s);
        gone = without_same n c t (its s);
      }

  further : eq_bytes x.name n ≡ false → (e : TableEntry) → Here n z t e → Here n (x ∷ z) (c ∷ t) e
  further s e rest = record {
    before = x ∷ rest.before;
    records = rest.records;
    behind = rest.behind;
    entries_before = c ∷ rest.entries_before;
    entries_behind = rest.entries_behind;
    form = ap (◌∷◌ x) rest.form;
    away = Every.more s rest.away;
    first = Pairwise.more h rest.first;
    own = rest.own;
    last = rest.last;
    change = λ f. changed_other n c t f (its s) ∙ ap (◌∷◌ c) (rest.change f);
    gone = without_other n c t (its s) ∙ ap (◌∷◌ c) rest.gone;
  }

  here_by : (b : Bool) → eq_bytes x.name n ≡ b → Holds z t → (e : TableEntry) → find n (c ∷ t) ≡ some e → (find n t ≡ some e → Here n z t e)
      → Here n (x ∷ z) (c ∷ t) e
  here_by true s hs e found rest = subst (Here n (x ∷ z) (c ∷ t)) (some-injective c e (sym (find_same n c t (its s)) ∙ found)) (at_first s hs)
  here_by false s hs e found rest = further s e (rest (sym (find_other n c t (its s)) ∙ found))

  away_by : (b : Bool) → eq_bytes x.name n ≡ b → find n (c ∷ t) ≡ none → (find n t ≡ none → Away n z) → Away n (x ∷ z)
  away_by true s found rest = absurd (some-ne-none c (sym (find_same n c t (its s)) ∙ found))
  away_by false s found rest = Every.more s (rest (sym (find_other n c t (its s)) ∙ found))

none_found : (n : List ℕ) → find {H = List ℕ} n [] ≡ none
unfolding find
none_found n = refl

pub here : (n : List ℕ) {z : Zone} {t : List TableEntry} → Holds z t → (e : TableEntry) → find n t ≡ some e → Here n z t e
here n Pairwise.none e found = absurd (none-ne-some e (sym (none_found n) ∙ found))
here n (Pairwise.more {a = x} {b = c} {l = z} {m = t} h hs) e found = here_by n x c z t h (eq_bytes x.name n) refl hs e found (λ k. here n hs e k)

pub nowhere : (n : List ℕ) {z : Zone} {t : List TableEntry} → Holds z t → find n t ≡ none → Away n z
nowhere n Pairwise.none found = Every.none
nowhere n (Pairwise.more {a = x} {b = c} {l = z} {m = t} h hs) found = away_by n x c z t h (eq_bytes x.name n) refl found (λ k. nowhere n hs k)

-- ---- another entry there, or none

module _ {n : List ℕ} {z : Zone} {t : List TableEntry} {e : TableEntry} (h : Here n z t e) where
  pub holds_changed : (f : TableEntry → TableEntry) (ds : List Datum) → (f e).name ≡ e.name → is_empty ds ≡ false → Has ds (f e)
      → Holds (h.before ++ node n ds ∷ h.behind) (changed n f t)
  holds_changed f ds keeps used has =
      subst (Holds (h.before ++ node n ds ∷ h.behind)) (sym (h.change f))
      (pairwise_append h.first (Pairwise.more (record { same = h.own.same ∙ sym keeps; used = used; has = has }) h.last))

  pub holds_without : Holds (h.before ++ h.behind) (without n t)
  holds_without = subst (Holds (h.before ++ h.behind)) (sym h.gone) (pairwise_append h.first h.last)
