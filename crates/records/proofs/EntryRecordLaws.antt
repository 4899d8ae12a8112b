-- The records of one entry. Assumes nothing.
use Prim.Native.Nat.{ℕ, ◌+◌, ◌*◌, ◌≤◌}
use mathlib.Core.Path.{◌≡◌, refl, ap, ◌∙◌}
use mathlib.Core.List.{List, [], ◌∷◌, ◌++◌, append-nil}
use mathlib.Core.Option.{Option, none, some}
use native.Mathlib.Omega.{arith}
use lib.ListN.{length, length-append}
use Rattle.base.specs.Logic.{Every, first_of}
use Rattle.base.proofs.Lists.{every_append}
use Rattle.grammar.specs.Listing.{RecordType}
use Rattle.slots.specs.Fields.{in_field}
use Rattle.slots.specs.Form.{TableEntry, flag, flags}
use Rattle.records.specs.Written.{record_if, entry_records}
use Rattle.records.specs.Gathered.{data_of}
use Rattle.records.specs.Promise.{rtype_of}
use Rattle.records.proofs.DataLaws.{apart_types, of_is, other_owner, other_type, data_none, data_one, data_not_one, data_append}

-- ---- the records of one field

-- what there may be, as a list
abbrev pub listed : Option (List ℕ) → List (List ℕ)
listed none = []
listed (some x) = x ∷ []

pub first_listed : (o : Option (List ℕ)) → first_of (listed o) ≡ o
first_listed none = refl
first_listed (some x) = refl

pub length_listed : (o : Option (List ℕ)) → length (listed o) ≤ 1
length_listed none = omega arith
length_listed (some x) = omega arith

module _ (m : List ℕ) (j : RecordType) where
  field_owner : (o : Option (List ℕ)) → Every (λ r. r.owner ≡ m) (record_if m j o)
  field_owner none = Every.none
  field_owner (some x) = Every.more refl Every.none

  field_some : (bit : ℕ) (o : Option (List ℕ)) → flag bit o ≤ bit * length (record_if m j o)
  field_some bit none = omega arith
  field_some bit (some x) = omega arith

  field_data : (o : Option (List ℕ)) → data_of m j (record_if m j o) ≡ listed o
  field_data none = data_none m j
  field_data (some x) = data_one m j (record { owner = m; rtype = j; rdata = x }) (of_is m j (record { owner = m; rtype = j; rdata = x }) refl refl)

  -- none of another name, and none of another type
  name_else : (n : List ℕ) (k : RecordType) → (m ≡ n → ⊥) → (o : Option (List ℕ)) → data_of n k (record_if m j o) ≡ []
  name_else n k d none = data_none n k
  name_else n k d (some x) = data_not_one n k (record { owner = m; rtype = j; rdata = x }) (other_owner n k (record { owner = m; rtype = j; rdata = x }) d)

  type_else : (n : List ℕ) (k : RecordType) → (j ≡ k → ⊥) → (o : Option (List ℕ)) → data_of n k (record_if m j o) ≡ []
  type_else n k d none = data_none n k
  type_else n k d (some x) = data_not_one n k (record { owner = m; rtype = j; rdata = x }) (other_type n k (record { owner = m; rtype = j; rdata = x }) d)

-- ---- those of one entry

module _ (n : List ℕ) (k : RecordType) where
  three_parts : (e : TableEntry) → data_of n k (entry_records e)
      ≡ data_of n k (record_if e.name RecordType.A e.a) ++ data_of n k (record_if e.name RecordType.AAAA e.aaaa) ++ data_of n k (record_if e.name RecordType.DHCID e.holder)
  unfolding entry_records
  three_parts e =
      let x = record_if e.name RecordType.A e.a in
      let y = record_if e.name RecordType.AAAA e.aaaa in
      let z = record_if e.name RecordType.DHCID e.holder in
      data_append n k (x ++ y) z ∙ ap (λ (l : List (List ℕ)). l ++ data_of n k z) (data_append n k x y)

module _ (e : TableEntry) where
  -- under its own name what it has, and nothing under another
  pub entry_data : (k : RecordType) → data_of e.name k (entry_records e) ≡ listed (in_field (rtype_of k) e)
  entry_data RecordType.A =
      three_parts e.name RecordType.A e
      ∙ (λ i. field_data e.name RecordType.A e.a i
      ++ type_else e.name RecordType.AAAA e.name RecordType.A (apart_types RecordType.AAAA RecordType.A refl) e.aaaa i
      ++ type_else e.name RecordType.DHCID e.name RecordType.A (apart_types RecordType.DHCID RecordType.A refl) e.holder i)
      ∙ append-nil (listed e.a ++ []) ∙ append-nil (listed e.a)
  entry_data RecordType.AAAA =
      three_parts e.name RecordType.AAAA e
      ∙ (λ i. type_else e.name RecordType.A e.name RecordType.AAAA (apart_types RecordType.A RecordType.AAAA refl) e.a i
      ++ field_data e.name RecordType.AAAA e.aaaa i
      ++ type_else e.name RecordType.DHCID e.name RecordType.AAAA (apart_types RecordType.DHCID RecordType.AAAA refl) e.holder i)
      ∙ append-nil (listed e.aaaa)
  entry_data RecordType.DHCID =
      three_parts e.name RecordType.DHCID e
      ∙ (λ i. type_else e.name RecordType.A e.name RecordType.DHCID (apart_types RecordType.A RecordType.DHCID refl) e.a i
      ++ type_else e.name RecordType.AAAA e.name RecordType.DHCID (apart_types RecordType.AAAA RecordType.DHCID refl) e.aaaa i
      ++ field_data e.name RecordType.DHCID e.holder i)

  pub entry_else : (n : List ℕ) (k : RecordType) → (e.name ≡ n → ⊥) → data_of n k (entry_records e) ≡ []
  entry_else n k d =
      three_parts n k e
      ∙ (λ i. name_else e.name RecordType.A n k d e.a i ++ name_else e.name RecordType.AAAA n k d e.aaaa i ++ name_else e.name RecordType.DHCID n k d e.holder i)

  pub entry_owner : Every (λ r. r.owner ≡ e.name) (entry_records e)
  unfolding entry_records
  entry_owner =
      every_append _ _ (every_append _ _ (field_owner e.name RecordType.A e.a) (field_owner e.name RecordType.AAAA e.aaaa)) (field_owner e.name RecordType.DHCID e.holder)

  length_entry : length (entry_records e)
      ≡ length (record_if e.name RecordType.A e.a) + length (record_if e.name RecordType.AAAA e.aaaa) + length (record_if e.name RecordType.DHCID e.holder)
  unfolding entry_records
  length_entry =
      let x = record_if e.name RecordType.A e.a in
      let y = record_if e.name RecordType.AAAA e.aaaa in
      let z = record_if e.name RecordType.DHCID e.holder in
      omega (arith, length-append (x ++ y) z, length-append x y)

  -- at least one where a flag is set
  pub entry_some : 1 ≤ flags e → 1 ≤ length (entry_records e)
  unfolding flags
  entry_some h =
      omega (arith, length_entry, field_some e.name RecordType.A 1 e.a, field_some e.name RecordType.AAAA 2 e.aaaa, field_some e.name RecordType.DHCID 4 e.holder)
