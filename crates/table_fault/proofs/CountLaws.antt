-- Records of which no two are alike are at most three to a name. Assumes nothing.
use Prim.Native.Nat.{ℕ, zero, suc, ◌+◌, ◌*◌, ◌≤◌}
use mathlib.Core.Bool.{Bool, cond}
use mathlib.Core.Path.{◌≡◌, refl, sym, ap, ◌∙◌}
use mathlib.Core.List.{List, [], ◌∷◌}
use native.Mathlib.Omega.{arith}
use lib.ListN.{length}
use Rattle.base.specs.Bytes.{eq_bytes}
use Rattle.base.proofs.Tests.{eq_eq_bytes, ne_eq_bytes}
use Rattle.grammar.specs.Listing.{RecordType, ResourceRecord}
use Rattle.records.specs.Gathered.{Single, except, owners}
use Rattle.records.proofs.DataLaws.{apart_types, of_is, other_owner, other_type, data_one, data_not_one, length_data_append}
use Rattle.records.proofs.OwnerLaws.{by_name, except_none, except_same, except_other, except_twice, owners_none, owners_more}
use Rattle.table_fault.proofs.TypeLaws.{many}

-- ---- records but for those of one name

unfoldable without : List ℕ → List ResourceRecord → List ResourceRecord
without n [] = []
without n (r ∷ rs) = cond (eq_bytes r.owner n) (without n rs) (r ∷ without n rs)

module _ (n : List ℕ) (r : ResourceRecord) (rs : List ResourceRecord) where
  without_same : r.owner ≡ n → without n (r ∷ rs) ≡ without n rs
  unfolding without
  without_same e = ap (λ (b : Bool). cond b (without n rs) (r ∷ without n rs)) (eq_eq_bytes r.owner n e)

  without_other : (r.owner ≡ n → ⊥) → without n (r ∷ rs) ≡ r ∷ without n rs
  unfolding without
  without_other d = ap (λ (b : Bool). cond b (without n rs) (r ∷ without n rs)) (ne_eq_bytes r.owner n d)

without_none : (n : List ℕ) → without n [] ≡ []
unfolding without
without_none n = refl

-- ---- their owners

except_swap : (m n : List ℕ) (ns : List (List ℕ)) → except m (except n ns) ≡ except n (except m ns)
except_swap m n [] = ap (except m) (except_none n) ∙ except_none m ∙ sym (ap (except n) (except_none m) ∙ except_none n)
except_swap m n (k ∷ ns) =
    let ih = except_swap m n ns in
    by_name k n
    (λ kn. ap (except m) (except_same n k ns kn) ∙ ih
    ∙ by_name k m (λ km. ap (except n) (sym (except_same m k ns km))) (λ km. sym (ap (except n) (except_other m k ns km) ∙ except_same n k (except m ns) kn)))
    (λ kn. ap (except m) (except_other n k ns kn)
    ∙ by_name k m
    (λ km. except_same m k (except n ns) km ∙ ih ∙ ap (except n) (sym (except_same m k ns km)))
    (λ km. except_other m k (except n ns) km ∙ ap (◌∷◌ k) ih ∙ sym (ap (except n) (except_other m k ns km) ∙ except_other n k (except m ns) kn)))

owners_without : (n : List ℕ) (rs : List ResourceRecord) → owners (without n rs) ≡ except n (owners rs)
owners_without n [] = ap owners (without_none n) ∙ owners_none ∙ sym (ap (except n) owners_none ∙ except_none n)
owners_without n (r ∷ rs) =
    let ih = owners_without n rs in
    by_name r.owner n
    (λ e. ap owners (without_same n r rs e) ∙ ih
    ∙ sym (ap (except n) (owners_more r rs) ∙ except_same n r.owner (except r.owner (owners rs)) e ∙ ap (λ (m : List ℕ). except n (except m (owners rs))) e ∙ except_twice n (owners rs)))
    (λ d. ap owners (without_other n r rs d) ∙ owners_more r (without n rs) ∙ ap (λ (l : List (List ℕ)). r.owner ∷ except r.owner l) ih
    ∙ ap (◌∷◌ r.owner) (except_swap r.owner n (owners rs)) ∙ sym (ap (except n) (owners_more r rs) ∙ except_other n r.owner (except r.owner (owners rs)) d))

-- one fewer
one_fewer : (r : ResourceRecord) (rs : List ResourceRecord) → length (owners (r ∷ rs)) ≡ length (owners (without r.owner (r ∷ rs))) + 1
one_fewer r rs =
    let n = r.owner in
    omega (arith, ap length (owners_more r rs), ap length (ap owners (without_same n r rs refl) ∙ owners_without n rs))

-- ---- how many they are

module _ (n : List ℕ) (r : ResourceRecord) where
  one_of : r.owner ≡ n → (k : RecordType) → r.rtype ≡ k → many n RecordType.A (r ∷ []) + many n RecordType.AAAA (r ∷ []) + many n RecordType.DHCID (r ∷ []) ≡ 1
  one_of own RecordType.A e =
      let a = ap length (data_one n RecordType.A r (of_is n RecordType.A r own e)) in
      let aaaa = ap length (data_not_one n RecordType.AAAA r (other_type n RecordType.AAAA r (λ x. apart_types RecordType.A RecordType.AAAA refl (sym e ∙ x)))) in
      let dhcid = ap length (data_not_one n RecordType.DHCID r (other_type n RecordType.DHCID r (λ x. apart_types RecordType.A RecordType.DHCID refl (sym e ∙ x)))) in
      omega arith
  one_of own RecordType.AAAA e =
      let a = ap length (data_not_one n RecordType.A r (other_type n RecordType.A r (λ x. apart_types RecordType.AAAA RecordType.A refl (sym e ∙ x)))) in
      let aaaa = ap length (data_one n RecordType.AAAA r (of_is n RecordType.AAAA r own e)) in
      let dhcid = ap length (data_not_one n RecordType.DHCID r (other_type n RecordType.DHCID r (λ x. apart_types RecordType.AAAA RecordType.DHCID refl (sym e ∙ x)))) in
      omega arith
  one_of own RecordType.DHCID e =
      let a = ap length (data_not_one n RecordType.A r (other_type n RecordType.A r (λ x. apart_types RecordType.DHCID RecordType.A refl (sym e ∙ x)))) in
      let aaaa = ap length (data_not_one n RecordType.AAAA r (other_type n RecordType.AAAA r (λ x. apart_types RecordType.DHCID RecordType.AAAA refl (sym e ∙ x)))) in
      let dhcid = ap length (data_one n RecordType.DHCID r (of_is n RecordType.DHCID r own e)) in
      omega arith

  none_of : (r.owner ≡ n → ⊥) → (k : RecordType) → many n k (r ∷ []) ≡ 0
  none_of d k = ap length (data_not_one n k r (other_owner n k r d))

-- of each type one record first, and the others
first_many : (n : List ℕ) (k : RecordType) (r : ResourceRecord) (rs : List ResourceRecord) → many n k (r ∷ rs) ≡ many n k (r ∷ []) + many n k rs
first_many n k r rs = length_data_append n k (r ∷ []) rs

length_parts : (n : List ℕ) (rs : List ResourceRecord) → length rs ≤ many n RecordType.A rs + many n RecordType.AAAA rs + many n RecordType.DHCID rs + length (without n rs)
length_parts n [] = omega arith
length_parts n (r ∷ rs) =
    let ih = length_parts n rs in
    let a = first_many n RecordType.A r rs in
    let aaaa = first_many n RecordType.AAAA r rs in
    let dhcid = first_many n RecordType.DHCID r rs in
    by_name r.owner n
    (λ e. omega (arith, one_of n r e r.rtype refl, ap length (without_same n r rs e)))
    (λ d. omega (arith, ap length (without_other n r rs d)))

no_more : (m n : List ℕ) (k : RecordType) (rs : List ResourceRecord) → many m k (without n rs) ≤ many m k rs
no_more m n k [] = omega (arith, ap (many m k) (without_none n))
no_more m n k (r ∷ rs) =
    let ih = no_more m n k rs in
    let all = first_many m k r rs in
    by_name r.owner n
    (λ e. omega (arith, ap (many m k) (without_same n r rs e)))
    (λ d. omega (arith, ap (many m k) (without_other n r rs d), first_many m k r (without n rs)))

few_by : (fuel : ℕ) (rs : List ResourceRecord) → ((qs : List ResourceRecord) → length (owners qs) ≤ fuel → Single qs → length qs ≤ 3 * length (owners qs))
    → length (owners rs) ≤ suc fuel → Single rs → length rs ≤ 3 * length (owners rs)
unfolding Single
few_by fuel [] ih h single = omega arith
few_by fuel (r ∷ rs) ih h single =
    let n = r.owner in
    let one = one_fewer r rs in
    let rest = ih (without n (r ∷ rs)) (omega arith) (λ m k. omega (arith, no_more m n k (r ∷ rs), single m k)) in
    omega (arith, length_parts n (r ∷ rs), single n RecordType.A, single n RecordType.AAAA, single n RecordType.DHCID)

none_owned : (rs : List ResourceRecord) → length (owners rs) ≤ 0 → length rs ≤ 3 * length (owners rs)
none_owned [] h = omega arith
none_owned (r ∷ rs) h = absurd (omega (arith, ap length (owners_more r rs)))

few_within : (fuel : ℕ) (rs : List ResourceRecord) → length (owners rs) ≤ fuel → Single rs → length rs ≤ 3 * length (owners rs)
few_within zero rs h single = none_owned rs h
few_within (suc fuel) rs h single = few_by fuel rs (λ qs. few_within fuel qs) h single

pub records_few : (rs : List ResourceRecord) → Single rs → length rs ≤ 3 * length (owners rs)
records_few rs single = few_within (length (owners rs)) rs (omega arith) single
