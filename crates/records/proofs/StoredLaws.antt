-- The table of records, and of those with one record more. Assumes nothing.
use Prim.Native.Nat.{ℕ}
use mathlib.Core.Bool.{true, false}
use mathlib.Core.Path.{◌≡◌, refl, sym, ap, ap₂, ◌∙◌}
use mathlib.Core.List.{List, [], ◌∷◌, ◌++◌, map, append-nil}
use mathlib.Core.Option.{none, some, some-ne-none}
use lib.ListN.{length, length-map}
use Rattle.base.specs.Logic.{first_of}
use Rattle.base.proofs.Lists.{map_append}
use Rattle.grammar.specs.Listing.{RecordType, ResourceRecord}
use Rattle.slots.specs.Entry.{names}
use Rattle.slots.specs.Fields.{bare, with_field}
use Rattle.slots.specs.Form.{TableEntry}
use Rattle.table.specs.Steps.{find}
use Rattle.records.specs.Gathered.{is_of, data_of, owners, gathered, table_of}
use Rattle.records.specs.Promise.{rtype_of, written_by, written, stored}
use Rattle.records.proofs.DataLaws.{apart_types, of_is, other_owner, other_type, data_append, data_one, data_not_one}
use Rattle.records.proofs.OwnerLaws.{among, by_among, among_apart, owners_distinct, owners_known, owners_new, no_data}
use Rattle.records.proofs.MappedLaws.{names_mapped, mapped_absent, mapped_found, mapped_still, mapped_changed}

-- ---- the table of records

pub table_none : table_of [] ≡ []
unfolding table_of owners
table_none = refl

pub gathered_name : (rs : List ResourceRecord) (n : List ℕ) → (gathered rs n).name ≡ n
unfolding gathered
gathered_name rs n = refl

module _ (rs : List ResourceRecord) where
  -- its names are the owners
  pub table_names : names (table_of rs) ≡ owners rs
  unfolding table_of
  table_names = names_mapped (gathered rs) (gathered_name rs) (owners rs)

  pub length_table_of : length (table_of rs) ≡ length (owners rs)
  unfolding table_of
  length_table_of = length-map (owners rs) (gathered rs)

  module _ (n : List ℕ) where
    -- what is no owner is not found, and an owner is found with what the records put under it
    pub found_none : among n (owners rs) ≡ false → find n (table_of rs) ≡ none
    unfolding table_of
    found_none h = mapped_absent (gathered rs) (gathered_name rs) n (owners rs) h

    pub found_some : among n (owners rs) ≡ true → find n (table_of rs) ≡ some (gathered rs n)
    unfolding table_of
    found_some h = mapped_found (gathered rs) (gathered_name rs) n (owners rs) h

    pub none_found : find n (table_of rs) ≡ none → among n (owners rs) ≡ false
    none_found h = by_among n (owners rs) (λ t. absurd (some-ne-none (gathered rs n) (sym (found_some t) ∙ h))) (λ f. f)

    -- nothing stands under what is no owner
    gathered_bare : among n (owners rs) ≡ false → gathered rs n ≡ bare n
    unfolding gathered
    gathered_bare h =
        let nothing : (k : RecordType) → data_of n k rs ≡ [] = λ k. no_data n k rs h in
        λ i. record { name = n; a = first_of (nothing RecordType.A i); aaaa = first_of (nothing RecordType.AAAA i); holder = first_of (nothing RecordType.DHCID i) }

-- ---- one record more, at the end

module _ (seen : List ResourceRecord) (r : ResourceRecord) where
  -- the data of every other name and type stay as they are
  pub data_still : (n : List ℕ) (k : RecordType) → is_of n k r ≡ false → data_of n k (seen ++ r ∷ []) ≡ data_of n k seen
  data_still n k t = data_append n k seen (r ∷ []) ∙ ap (λ (l : List (List ℕ)). data_of n k seen ++ l) (data_not_one n k r t) ∙ append-nil (data_of n k seen)

  -- those of its own are its own, if there were none
  pub data_first : (n : List ℕ) (k : RecordType) → is_of n k r ≡ true → data_of n k seen ≡ [] → data_of n k (seen ++ r ∷ []) ≡ r.rdata ∷ []
  data_first n k t none_yet = data_append n k seen (r ∷ []) ∙ ap₂ ◌++◌ none_yet (data_one n k r t)

  -- what stands under another name stays as it is
  gathered_other : (n : List ℕ) → (r.owner ≡ n → ⊥) → gathered seen n ≡ gathered (seen ++ r ∷ []) n
  unfolding gathered
  gathered_other n d =
      let still : (k : RecordType) → data_of n k seen ≡ data_of n k (seen ++ r ∷ []) = λ k. sym (data_still n k (other_owner n k r d)) in
      λ i. record { name = n; a = first_of (still RecordType.A i); aaaa = first_of (still RecordType.AAAA i); holder = first_of (still RecordType.DHCID i) }

  -- under its own name there is that record besides, if there was none of its type
  gathered_by : (n : List ℕ) (k : RecordType) → r.owner ≡ n → r.rtype ≡ k → data_of n k seen ≡ [] → gathered (seen ++ r ∷ []) n ≡ with_field (rtype_of k) r.rdata (gathered seen n)
  unfolding gathered
  gathered_by n k e t none_yet = go k t none_yet
    where
      still : (j : RecordType) → (r.rtype ≡ j → ⊥) → first_of (data_of n j (seen ++ r ∷ [])) ≡ first_of (data_of n j seen)
      still j d = ap first_of (data_still n j (other_type n j r d))

      go : (k : RecordType) → r.rtype ≡ k → data_of n k seen ≡ [] → gathered (seen ++ r ∷ []) n ≡ with_field (rtype_of k) r.rdata (gathered seen n)
      go RecordType.A t h =
          let own = ap first_of (data_first n RecordType.A (of_is n RecordType.A r e t) h) in
          let aaaa = still RecordType.AAAA (λ s. apart_types RecordType.A RecordType.AAAA refl (sym t ∙ s)) in
          let dhcid = still RecordType.DHCID (λ s. apart_types RecordType.A RecordType.DHCID refl (sym t ∙ s)) in
          λ i. record { name = n; a = own i; aaaa = aaaa i; holder = dhcid i }
      go RecordType.AAAA t h =
          let a = still RecordType.A (λ s. apart_types RecordType.AAAA RecordType.A refl (sym t ∙ s)) in
          let own = ap first_of (data_first n RecordType.AAAA (of_is n RecordType.AAAA r e t) h) in
          let dhcid = still RecordType.DHCID (λ s. apart_types RecordType.AAAA RecordType.DHCID refl (sym t ∙ s)) in
          λ i. record { name = n; a = a i; aaaa = own i; holder = dhcid i }
      go RecordType.DHCID t h =
          let a = still RecordType.A (λ s. apart_types RecordType.DHCID RecordType.A refl (sym t ∙ s)) in
          let aaaa = still RecordType.AAAA (λ s. apart_types RecordType.DHCID RecordType.AAAA refl (sym t ∙ s)) in
          let own = ap first_of (data_first n RecordType.DHCID (of_is n RecordType.DHCID r e t) h) in
          λ i. record { name = n; a = a i; aaaa = aaaa i; holder = own i }

  -- an entry with that record
  abbrev with_record : TableEntry → TableEntry
  with_record e = with_field (rtype_of r.rtype) r.rdata e

  module _ (none_yet : data_of r.owner r.rtype seen ≡ []) where
    gathered_own : with_record (gathered seen r.owner) ≡ gathered (seen ++ r ∷ []) r.owner
    gathered_own = sym (gathered_by r.owner r.rtype refl refl none_yet)

    stored_known : among r.owner (owners seen) ≡ true → stored r (table_of seen) ≡ table_of (seen ++ r ∷ [])
    unfolding stored written table_of
    stored_known h =
        ap (λ o. written_by o r.owner (rtype_of r.rtype) r.rdata (table_of seen)) (found_some seen r.owner h)
        ∙ mapped_changed (gathered seen) (gathered_name seen) r.owner (gathered (seen ++ r ∷ [])) gathered_other with_record gathered_own (owners seen) (owners_distinct seen)
        ∙ ap (map (gathered (seen ++ r ∷ []))) (sym (owners_known seen r h))

    stored_new : among r.owner (owners seen) ≡ false → stored r (table_of seen) ≡ table_of (seen ++ r ∷ [])
    unfolding stored written table_of
    stored_new h =
        ap (λ o. written_by o r.owner (rtype_of r.rtype) r.rdata (table_of seen)) (found_none seen r.owner h)
        ∙ ap₂ (λ (t : List TableEntry) (e : TableEntry). t ++ e ∷ [])
        (mapped_still (gathered seen) (gathered_name seen) r.owner (gathered (seen ++ r ∷ [])) gathered_other (owners seen) (among_apart r.owner (owners seen) h))
        (ap with_record (sym (gathered_bare seen r.owner h)) ∙ gathered_own)
        ∙ sym (map_append (gathered (seen ++ r ∷ [])) (owners seen) (r.owner ∷ []))
        ∙ ap (map (gathered (seen ++ r ∷ []))) (sym (owners_new seen r h))

    -- a record of a name and a type that had none is stored under its owner: the table is that of all the records
    pub stored_table : stored r (table_of seen) ≡ table_of (seen ++ r ∷ [])
    stored_table = by_among r.owner (owners seen) stored_known stored_new
