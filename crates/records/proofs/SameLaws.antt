-- A table determines its records: two lists in which no name has two records of one type and which make the same table have the same data, name by name and type by type. Assumes nothing.
use Prim.Native.Nat.{ℕ, ◌≤◌}
use mathlib.Core.Path.{◌≡◌, refl, sym, ap, ap₂, ◌∙◌}
use mathlib.Core.List.{List, [], ◌∷◌}
use mathlib.Core.Option.{some-injective, some-ne-none, none-ne-some}
use native.Mathlib.Omega.{arith}
use lib.ListN.{length, drop_of_length-le}
use Rattle.base.specs.Logic.{first_of}
use Rattle.grammar.specs.Listing.{RecordType, ResourceRecord}
use Rattle.slots.specs.Entry.{names}
use Rattle.slots.specs.Fields.{in_field}
use Rattle.table.specs.Steps.{find}
use Rattle.records.specs.Gathered.{data_of, Single, owners, gathered, table_of}
use Rattle.records.specs.Promise.{rtype_of}
use Rattle.records.proofs.OwnerLaws.{among, by_among, no_data}
use Rattle.records.proofs.StoredLaws.{table_names, found_some}

gathered_field : (rs : List ResourceRecord) (n : List ℕ) (k : RecordType) → in_field (rtype_of k) (gathered rs n) ≡ first_of (data_of n k rs)
unfolding gathered
gathered_field rs n RecordType.A = refl
gathered_field rs n RecordType.AAAA = refl
gathered_field rs n RecordType.DHCID = refl

-- lists of at most one element, by their first
one_first : (l m : List (List ℕ)) → length l ≤ 1 → length m ≤ 1 → first_of l ≡ first_of m → l ≡ m
one_first [] [] h k e = refl
one_first [] (y ∷ m) h k e = absurd (none-ne-some y e)
one_first (x ∷ l) [] h k e = absurd (some-ne-none x e)
one_first (x ∷ l) (y ∷ m) h k e = ap₂ ◌∷◌ (some-injective x y e) (drop_of_length-le l {i = 0} (omega arith) ∙ sym (drop_of_length-le m {i = 0} (omega arith)))

module _ (rs qs : List ResourceRecord) (same : table_of rs ≡ table_of qs) where
  pub same_owners : owners rs ≡ owners qs
  same_owners = sym (table_names rs) ∙ ap names same ∙ table_names qs

  module _ (single : Single rs) (also : Single qs) (n : List ℕ) (k : RecordType) where
    pub same_data : data_of n k rs ≡ data_of n k qs
    unfolding Single
    same_data =
        by_among n (owners rs)
        (λ t.
        let entry : gathered rs n ≡ gathered qs n = some-injective (gathered rs n) (gathered qs n) (sym (found_some rs n t) ∙ ap (find n) same ∙ found_some qs n (ap (among n) (sym same_owners) ∙ t)) in
        one_first (data_of n k rs) (data_of n k qs) (single n k) (also n k) (sym (gathered_field rs n k) ∙ ap (in_field (rtype_of k)) entry ∙ gathered_field qs n k))
        (λ f. no_data n k rs f ∙ sym (no_data n k qs (ap (among n) (sym same_owners) ∙ f)))
