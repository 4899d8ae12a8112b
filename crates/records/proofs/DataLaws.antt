-- The data that records have of one name and one type. Assumes nothing.
use Prim.Native.Nat.{ℕ, ◌+◌}
use mathlib.Core.Bool.{Bool, true, false, cond, ◌&&◌, true≢false}
use mathlib.Core.Path.{◌≡◌, refl, sym, ap, ap₂, ◌∙◌}
use mathlib.Core.List.{List, [], ◌∷◌, ◌++◌}
use native.Mathlib.Omega.{arith}
use lib.Dec.{eqb}
use lib.ListN.{length, length-append}
use borrow.Author.Tests.{eqb-true, eq-eqb}
use Rattle.base.specs.Bytes.{eq_bytes}
use Rattle.base.proofs.Tests.{and_left, and_right, eq_bytes_true, eq_eq_bytes}
use Rattle.grammar.specs.Listing.{RecordType, ResourceRecord}
use Rattle.entry.specs.Held.{type_number}
use Rattle.entry.proofs.HeldLaws.{one_type}
use Rattle.records.specs.Gathered.{is_of, data_of}

-- ---- the type by its number

-- two with other numbers are not the same; two with one number are (entry, one_type)
pub apart_types : (j k : RecordType) → eqb (type_number j) (type_number k) ≡ false → j ≡ k → ⊥
apart_types j k h e = true≢false (sym (eq-eqb (type_number j) (type_number k) (ap type_number e)) ∙ h)

-- ---- the test of one record

module _ (n : List ℕ) (k : RecordType) (r : ResourceRecord) where
  -- a record that passes has that owner and that type
  pub is_of_lem : is_of n k r ≡ true → (r.owner ≡ n) × (r.rtype ≡ k)
  unfolding is_of
  is_of_lem t =
      let owner = and_left (eq_bytes r.owner n) (eqb (type_number r.rtype) (type_number k)) t in
      let type = and_right (eq_bytes r.owner n) (eqb (type_number r.rtype) (type_number k)) t in
      (eq_bytes_true r.owner n owner, one_type r.rtype k (eqb-true (type_number r.rtype) (type_number k) type))

  -- and a record that has them passes
  pub of_is : r.owner ≡ n → r.rtype ≡ k → is_of n k r ≡ true
  unfolding is_of
  of_is owner type = ap₂ ◌&&◌ (eq_eq_bytes r.owner n owner) (eq-eqb (type_number r.rtype) (type_number k) (ap type_number type))

  -- so one with another owner, or of another type, does not
  not_of : ((r.owner ≡ n) × (r.rtype ≡ k) → ⊥) → is_of n k r ≡ false
  not_of h = go (is_of n k r) refl
    where
      go : (t : Bool) → is_of n k r ≡ t → t ≡ false
      go true e = absurd (h (is_of_lem e))
      go false e = refl

  pub other_owner : (r.owner ≡ n → ⊥) → is_of n k r ≡ false
  other_owner d = not_of (λ h. d h.0)

  pub other_type : (r.rtype ≡ k → ⊥) → is_of n k r ≡ false
  other_type d = not_of (λ h. d h.1)

  -- ---- one record more, in front

  module _ (rs : List ResourceRecord) where
    pub data_same : is_of n k r ≡ true → data_of n k (r ∷ rs) ≡ r.rdata ∷ data_of n k rs
    unfolding data_of
    data_same t = ap (λ (b : Bool). cond b (r.rdata ∷ data_of n k rs) (data_of n k rs)) t

    pub data_other : is_of n k r ≡ false → data_of n k (r ∷ rs) ≡ data_of n k rs
    unfolding data_of
    data_other t = ap (λ (b : Bool). cond b (r.rdata ∷ data_of n k rs) (data_of n k rs)) t

-- ---- one list of records after the other

module _ (n : List ℕ) (k : RecordType) where
  pub data_none : data_of n k [] ≡ []
  unfolding data_of
  data_none = refl

  by_append : (r : ResourceRecord) (a b : List ResourceRecord) (t : Bool) → is_of n k r ≡ t → data_of n k (a ++ b) ≡ data_of n k a ++ data_of n k b
      → data_of n k (r ∷ a ++ b) ≡ data_of n k (r ∷ a) ++ data_of n k b
  by_append r a b true s ih = data_same n k r (a ++ b) s ∙ ap (◌∷◌ r.rdata) ih ∙ ap (λ (l : List (List ℕ)). l ++ data_of n k b) (sym (data_same n k r a s))
  by_append r a b false s ih = data_other n k r (a ++ b) s ∙ ih ∙ ap (λ (l : List (List ℕ)). l ++ data_of n k b) (sym (data_other n k r a s))

  pub data_append : (a b : List ResourceRecord) → data_of n k (a ++ b) ≡ data_of n k a ++ data_of n k b
  unfolding data_of
  data_append [] b = refl
  data_append (r ∷ a) b = by_append r a b (is_of n k r) refl (data_append a b)

  -- of one record alone
  pub data_one : (r : ResourceRecord) → is_of n k r ≡ true → data_of n k (r ∷ []) ≡ r.rdata ∷ []
  data_one r t = data_same n k r [] t ∙ ap (◌∷◌ r.rdata) data_none

  pub data_not_one : (r : ResourceRecord) → is_of n k r ≡ false → data_of n k (r ∷ []) ≡ []
  data_not_one r t = data_other n k r [] t ∙ data_none

  -- and so there are as many of both as of the one and of the other
  pub length_data_append : (a b : List ResourceRecord) → length (data_of n k (a ++ b)) ≡ length (data_of n k a) + length (data_of n k b)
  length_data_append a b = ap length (data_append a b) ∙ length-append (data_of n k a) (data_of n k b)
