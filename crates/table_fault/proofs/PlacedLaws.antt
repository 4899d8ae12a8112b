-- Where the name of each record stands, in the order of the records. Assumes nothing.
use Prim.Native.Nat.{ℕ, ◌<◌}
use mathlib.Core.Path.{◌≡◌, refl, sym, ap, subst, subst₂, ◌∙◌}
use mathlib.Core.List.{List, [], ◌∷◌, ◌++◌, head-eq_of_cons-eq, tail-eq_of_cons-eq}
use native.Mathlib.Omega.{arith}
use lib.ListN.{length, get_or, set, length-append}
use lib.Seq.{get_or-set_same, get_or-set_other}
use Rattle.grammar.specs.Listing.{ResourceRecord}
use Rattle.records.specs.Gathered.{owners}
use Rattle.table_fault.specs.Judging.{IndexOf, Placed}

nothing_split : {P : Type 0} (a : List ResourceRecord) (q : ResourceRecord) (b : List ResourceRecord) → [] ≡ a ++ q ∷ b → P
nothing_split [] q b e = absurd (omega (arith, ap length e))
nothing_split (x ∷ a) q b e = absurd (omega (arith, ap length e))

-- a record among those with one more at the end: it is that one, or one of those before
pub data Split (seen : List ResourceRecord) (r : ResourceRecord) (a : List ResourceRecord) (q : ResourceRecord) : Type 0 where
  last : a ≡ seen → q ≡ r → Split seen r a q
  before : (b : List ResourceRecord) → seen ≡ a ++ q ∷ b → Split seen r a q

split_more : (s : ResourceRecord) (seen : List ResourceRecord) (r : ResourceRecord) (a : List ResourceRecord) (q x : ResourceRecord) → s ≡ x → Split seen r a q → Split (s ∷ seen) r (x ∷ a) q
split_more s seen r a q x e (Split.last h k) = Split.last (λ i. sym e i ∷ h i) k
split_more s seen r a q x e (Split.before b h) = Split.before b (λ i. e i ∷ h i)

split : (seen : List ResourceRecord) (r : ResourceRecord) (a : List ResourceRecord) (q : ResourceRecord) (b : List ResourceRecord) → seen ++ r ∷ [] ≡ a ++ q ∷ b → Split seen r a q
split [] r [] q b e = Split.last refl (sym (head-eq_of_cons-eq e))
split [] r (x ∷ a) q b e = nothing_split a q b (tail-eq_of_cons-eq e)
split (s ∷ seen) r [] q b e = Split.before seen (ap (λ (y : ResourceRecord). y ∷ seen) (head-eq_of_cons-eq e))
split (s ∷ seen) r (x ∷ a) q b e = split_more s seen r a q x (head-eq_of_cons-eq e) (split seen r a q b (tail-eq_of_cons-eq e))

pub placed_none : (ps : List ℕ) → Placed [] ps
unfolding Placed
placed_none ps a b r e = nothing_split a r b e

module _ (seen : List ResourceRecord) (r : ResourceRecord) (ps : List ℕ) (i k : ℕ) (here : k ≡ length seen) (room : length seen < length ps) (h : Placed seen ps)
    (there : IndexOf (owners seen) r.owner i) where
  more_by : (a : List ResourceRecord) (q : ResourceRecord) → Split seen r a q → IndexOf (owners a) q.owner (get_or (set ps k i) (length a) 0)
  unfolding Placed
  more_by a q (Split.last e own) =
      let same : length a ≡ k = ap length e ∙ sym here in
      let at : get_or (set ps k i) (length a) 0 ≡ i = ap (λ (j : ℕ). get_or (set ps k i) j 0) same ∙ get_or-set_same ps k i 0 (omega arith) in
      subst (IndexOf (owners a) q.owner) (sym at) (subst₂ (λ (l : List ResourceRecord) (x : ResourceRecord). IndexOf (owners l) x.owner i) (sym e) (sym own) there)
  more_by a q (Split.before b e) =
      let other : length a ≡ k → ⊥ = λ x. omega (arith, ap length e, length-append a (q ∷ b)) in
      subst (IndexOf (owners a) q.owner) (sym (get_or-set_other ps k (length a) i 0 other)) (h a b q e)

  pub placed_more : Placed (seen ++ r ∷ []) (set ps k i)
  unfolding Placed
  placed_more a b q e = more_by a q (split seen r a q b e)
