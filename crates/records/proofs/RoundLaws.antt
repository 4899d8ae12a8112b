-- The records of a table make that table again. Assumes nothing.
use Prim.Native.Nat.{ℕ, ◌≤◌}
use mathlib.Core.Bool.{false}
use mathlib.Core.Path.{◌≡◌, refl, ap, ap₂, subst, ◌∙◌}
use mathlib.Core.List.{List, [], ◌∷◌, ◌++◌, map, append-nil}
use native.Mathlib.Omega.{arith}
use lib.ListN.{length}
use Rattle.base.specs.Logic.{Every, first_of}
use Rattle.grammar.specs.Listing.{RecordType, ResourceRecord}
use Rattle.slots.specs.Entry.{names, Distinct}
use Rattle.slots.specs.Fields.{in_field}
use Rattle.slots.specs.Form.{TableEntry, flags, WellFormed}
use Rattle.records.specs.Written.{entry_records, table_records}
use Rattle.records.specs.Gathered.{data_of, Single, except, owners, gathered, table_of}
use Rattle.records.specs.Promise.{rtype_of}
use Rattle.records.proofs.DataLaws.{data_none, data_append}
use Rattle.records.proofs.OwnerLaws.{by_name, among, among_apart, apart_among, except_same, except_all, except_twice, owners_none, owners_more, no_data}
use Rattle.records.proofs.MappedLaws.{mapped_still}
use Rattle.records.proofs.StoredLaws.{table_none, gathered_name}
use Rattle.records.proofs.EntryRecordLaws.{listed, first_listed, length_listed, entry_data, entry_else, entry_owner, entry_some}

-- ---- records of one owner before others

module _ (n : List ℕ) where
  except_before : (a rs : List ResourceRecord) → Every (λ r. r.owner ≡ n) a → except n (owners (a ++ rs)) ≡ except n (owners rs)
  except_before [] rs h = refl
  except_before (r ∷ a) rs (Every.more e h) =
      ap (except n) (owners_more r (a ++ rs)) ∙ except_same n r.owner (except r.owner (owners (a ++ rs))) e
      ∙ ap (λ (m : List ℕ). except n (except m (owners (a ++ rs)))) e ∙ except_twice n (owners (a ++ rs)) ∙ except_before a rs h

  -- their owner stands first
  owners_before : (a rs : List ResourceRecord) → Every (λ r. r.owner ≡ n) a → 1 ≤ length a → owners (a ++ rs) ≡ n ∷ except n (owners rs)
  owners_before [] rs h long = absurd (omega arith)
  owners_before (r ∷ a) rs (Every.more e h) long =
      owners_more r (a ++ rs) ∙ ap (λ (m : List ℕ). m ∷ except m (owners (a ++ rs))) e ∙ ap (◌∷◌ n) (except_before a rs h)

-- ---- one entry before records of other names

module _ (e : TableEntry) (rs : List ResourceRecord) (new : among e.name (owners rs) ≡ false) where
  data_own : (k : RecordType) → data_of e.name k (entry_records e ++ rs) ≡ listed (in_field (rtype_of k) e)
  data_own k =
      data_append e.name k (entry_records e) rs ∙ ap₂ ◌++◌ (entry_data e k) (no_data e.name k rs new) ∙ append-nil (listed (in_field (rtype_of k) e))

  data_else : (n : List ℕ) (k : RecordType) → (e.name ≡ n → ⊥) → data_of n k (entry_records e ++ rs) ≡ data_of n k rs
  data_else n k d = data_append n k (entry_records e) rs ∙ ap (λ (l : List (List ℕ)). l ++ data_of n k rs) (entry_else e n k d)

  single_before : Single rs → Single (entry_records e ++ rs)
  unfolding Single
  single_before h n k =
      by_name e.name n
      (λ same. subst (λ (m : List ℕ). length (data_of m k (entry_records e ++ rs)) ≤ 1) same (omega (arith, ap length (data_own k), length_listed (in_field (rtype_of k) e))))
      (λ d. omega (arith, ap length (data_else n k d), h n k))

  gathered_entry : gathered (entry_records e ++ rs) e.name ≡ e
  unfolding gathered
  gathered_entry =
      let has : (k : RecordType) → first_of (data_of e.name k (entry_records e ++ rs)) ≡ in_field (rtype_of k) e = λ k. ap first_of (data_own k) ∙ first_listed (in_field (rtype_of k) e) in
      λ i. record { name = e.name; a = has RecordType.A i; aaaa = has RecordType.AAAA i; holder = has RecordType.DHCID i }

  gathered_else : (n : List ℕ) → (e.name ≡ n → ⊥) → gathered (entry_records e ++ rs) n ≡ gathered rs n
  unfolding gathered
  gathered_else n d =
      λ i. record { name = n; a = first_of (data_else n RecordType.A d i); aaaa = first_of (data_else n RecordType.AAAA d i); holder = first_of (data_else n RecordType.DHCID d i) }

  module _ (flagged : 1 ≤ flags e) where
    owners_entry : owners (entry_records e ++ rs) ≡ e.name ∷ owners rs
    owners_entry =
        owners_before e.name (entry_records e) rs (entry_owner e) (entry_some e flagged) ∙ ap (◌∷◌ e.name) (except_all e.name (owners rs) (among_apart e.name (owners rs) new))

    table_entry : table_of (entry_records e ++ rs) ≡ e ∷ table_of rs
    unfolding table_of
    table_entry =
        ap (map (gathered (entry_records e ++ rs))) owners_entry
        ∙ ap₂ ◌∷◌ gathered_entry
        (mapped_still (gathered (entry_records e ++ rs)) (gathered_name (entry_records e ++ rs)) e.name (gathered rs) gathered_else (owners rs) (among_apart e.name (owners rs) new))

-- ---- the table

-- whose names differ, and each of which has some record
pub owners_again : (t : List TableEntry) → Every WellFormed t → Distinct (names t) → owners (table_records t) ≡ names t
unfolding table_records
owners_again [] h d = owners_none
owners_again (e ∷ t) (Every.more w h) (Distinct.more apart d) =
    let ih = owners_again t h d in
    owners_entry e (table_records t) (ap (among e.name) ih ∙ apart_among e.name (names t) apart) w.some ∙ ap (◌∷◌ e.name) ih

-- so one more name that differs from them is no owner of their records
new_owner : (n : List ℕ) (t : List TableEntry) → Every WellFormed t → Every (λ m. m ≡ n → ⊥) (names t) → Distinct (names t) → among n (owners (table_records t)) ≡ false
new_owner n t h apart d = ap (among n) (owners_again t h d) ∙ apart_among n (names t) apart

none_twice : Single []
unfolding Single
none_twice n k = omega (arith, ap length (data_none n k))

pub single_again : (t : List TableEntry) → Every WellFormed t → Distinct (names t) → Single (table_records t)
unfolding table_records
single_again [] h d = none_twice
single_again (e ∷ t) (Every.more w h) (Distinct.more apart d) = single_before e (table_records t) (new_owner e.name t h apart d) (single_again t h d)

pub table_again : (t : List TableEntry) → Every WellFormed t → Distinct (names t) → table_of (table_records t) ≡ t
unfolding table_records
table_again [] h d = table_none
table_again (e ∷ t) (Every.more w h) (Distinct.more apart d) =
    table_entry e (table_records t) (new_owner e.name t h apart d) w.some ∙ ap (◌∷◌ e) (table_again t h d)
