-- Every sound table has a zone that holds it, and a zone holds one table. Assumes nothing.
use Prim.Native.Nat.{ℕ, ◌+◌, ◌≤◌}
use mathlib.Core.Bool.{false}
use mathlib.Core.Path.{◌≡◌, refl, sym, ap, ap₂, ◌∙◌}
use mathlib.Core.List.{List, [], ◌∷◌, nil≢cons, cons≢nil, head-eq_of_cons-eq}
use mathlib.Core.Option.{Option, none, some}
use native.Mathlib.Omega.{arith}
use borrow.Author.Tests.{eq-eqb, ne_eqb}
use Rattle.base.specs.Logic.{Every, Pairwise}
use Rattle.slots.specs.Form.{TableEntry, flag, flags, WellFormed}
use Rattle.update.specs.Message.{type_a, type_aaaa, type_dhcid}
use Rattle.carried.specs.Holds.{listed, Has, NodeOf, Holds}
use Rattle.carried.specs.Zone.{Datum, Node, Zone, is_empty, of_type}
use Rattle.carried.proofs.RecordLaws.{datum, type_same, type_other, none_of_type}
use Rattle.carried.proofs.ZoneLaws.{node}

-- a record for what there may be, before others
abbrev with : ℕ → Option (List ℕ) → List Datum → List Datum
with k none ds = ds
with k (some y) ds = datum k y ∷ ds

abbrev records_of : TableEntry → List Datum
records_of e = with type_a e.a (with type_aaaa e.aaaa (with type_dhcid e.holder []))

unfoldable pub zone_of : List TableEntry → Zone
zone_of [] = []
zone_of (e ∷ t) = node e.name (records_of e) ∷ zone_of t

passes_by : (k j : ℕ) (o : Option (List ℕ)) (ds : List Datum) → (k ≡ j → ⊥) → of_type k (with j o ds) ≡ of_type k ds
passes_by k j none ds h = refl
passes_by k j (some y) ds h = type_other k (datum j y) ds (ne_eqb j k (λ e. h (sym e)))

its_own : (k : ℕ) (o : Option (List ℕ)) (ds : List Datum) → of_type k ds ≡ [] → of_type k (with k o ds) ≡ listed o
its_own k none ds h = h
its_own k (some y) ds h = type_same k (datum k y) ds (eq-eqb k k refl) ∙ ap (◌∷◌ y) h

has_records : (e : TableEntry) → Has (records_of e) e
has_records e = record {
  a = its_own type_a e.a _ (passes_by type_a type_aaaa e.aaaa _ (λ h. omega (arith, h)) ∙ passes_by type_a type_dhcid e.holder [] (λ h. omega (arith, h)) ∙ none_of_type type_a);
  aaaa = passes_by type_aaaa type_a e.a _ (λ h. omega (arith, h)) ∙ its_own type_aaaa e.aaaa _ (passes_by type_aaaa type_dhcid e.holder [] (λ h. omega (arith, h)) ∙ none_of_type type_aaaa);
  dhcid = passes_by type_dhcid type_a e.a _ (λ h. omega (arith, h)) ∙ passes_by type_dhcid type_aaaa e.aaaa _ (λ h. omega (arith, h))
      ∙ its_own type_dhcid e.holder [] (none_of_type type_dhcid);
  others = λ k p q r. passes_by k type_a e.a _ p ∙ passes_by k type_aaaa e.aaaa _ q ∙ passes_by k type_dhcid e.holder [] r ∙ none_of_type k;
}

some_there : (a b h : Option (List ℕ)) → 1 ≤ flag 1 a + flag 2 b + flag 4 h → is_empty (with type_a a (with type_aaaa b (with type_dhcid h []))) ≡ false
some_there (some x) b h l = refl
some_there none (some x) h l = refl
some_there none none (some x) l = refl
some_there none none none l = absurd (omega arith)

some_record : (e : TableEntry) → WellFormed e → is_empty (records_of e) ≡ false
unfolding flags
some_record e w = some_there e.a e.aaaa e.holder w.some

pub zone_holds : (t : List TableEntry) → Every WellFormed t → Holds (zone_of t) t
unfolding zone_of
zone_holds [] Every.none = Pairwise.none
zone_holds (e ∷ t) (Every.more w ws) = Pairwise.more (record { same = refl; used = some_record e w; has = has_records e }) (zone_holds t ws)

-- ---- and a zone holds one table

same_field : (o p : Option (List ℕ)) → listed o ≡ listed p → o ≡ p
same_field none none e = refl
same_field none (some y) e = absurd (nil≢cons e)
same_field (some x) none e = absurd (cons≢nil e)
same_field (some x) (some y) e = ap some (head-eq_of_cons-eq e)

same_entry : (x : Node) (e c : TableEntry) → NodeOf x e → NodeOf x c → e ≡ c
same_entry x e c h k =
    let name : e.name ≡ c.name = sym h.same ∙ k.same in
    let a : e.a ≡ c.a = same_field e.a c.a (sym h.has.a ∙ k.has.a) in
    let aaaa : e.aaaa ≡ c.aaaa = same_field e.aaaa c.aaaa (sym h.has.aaaa ∙ k.has.aaaa) in
    let holder : e.holder ≡ c.holder = same_field e.holder c.holder (sym h.has.dhcid ∙ k.has.dhcid) in
    λ i. record { name = name i; a = a i; aaaa = aaaa i; holder = holder i }

pub same_held : (z : Zone) (t u : List TableEntry) → Holds z t → Holds z u → t ≡ u
same_held [] [] [] Pairwise.none Pairwise.none = refl
same_held (x ∷ z) (e ∷ t) (c ∷ u) (Pairwise.more h hs) (Pairwise.more k ks) = ap₂ ◌∷◌ (same_entry x e c h k) (same_held z t u hs ks)
same_held [] [] (c ∷ u) _ k = elim k [ ]
same_held [] (e ∷ t) u h _ = elim h [ ]
same_held (x ∷ z) [] u h _ = elim h [ ]
same_held (x ∷ z) (e ∷ t) [] _ k = elim k [ ]
