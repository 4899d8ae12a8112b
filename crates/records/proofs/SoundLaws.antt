-- The table of well-formed records is sound, if there is room for their owners. Assumes nothing.
use Prim.Native.Nat.{ℕ, ◌≤◌}
use mathlib.Core.Bool.{Bool, true, false}
use mathlib.Core.Path.{◌≡◌, refl, sym, subst}
use mathlib.Core.List.{List, [], ◌∷◌}
use native.Mathlib.Omega.{arith}
use lib.ListN.{length}
use Rattle.base.specs.Logic.{Every, IfSome, first_of}
use Rattle.base.proofs.Lists.{every_map, every_by}
use Rattle.name.specs.Name.{Proper, canonical}
use Rattle.grammar.specs.Listing.{RecordType, ResourceRecord}
use Rattle.writer.specs.Line
use Rattle.writer.specs.Line.{RdataOf}
use Rattle.slots.specs.Entry.{names, Distinct}
use Rattle.slots.specs.Form.{flag, flags, WellFormed, table_bytes, IsTable, Sound}
use Rattle.records.specs.Gathered.{is_of, data_of, owners, gathered, table_of}
use Rattle.records.proofs.DataLaws.{is_of_lem, data_none, data_same, data_other, length_data_append}
use Rattle.records.proofs.OwnerLaws.{every_except, owners_none, owners_more, owners_distinct, Owns, owns_first}
use Rattle.records.proofs.StoredLaws.{table_names, length_table_of}

-- ---- the owners

-- a proper name in canonical form that has some record
record Named (rs : List ResourceRecord) (n : List ℕ) : Type 0 where
  proper : Proper n
  lower : canonical n ≡ n
  owns : Owns n rs

named_later : (r : ResourceRecord) (rs : List ResourceRecord) (n : List ℕ) → Named rs n → Named (r ∷ rs) n
unfolding Owns
named_later r rs n h =
    let k = h.owns.0 in
    record { proper = h.proper; lower = h.lower; owns = (k, omega (arith, h.owns.1, length_data_append n k (r ∷ []) rs)) }

owners_named : (rs : List ResourceRecord) → Every Line.WellFormedRecord rs → Every (Named rs) (owners rs)
owners_named [] h = subst (Every (Named [])) (sym owners_none) Every.none
owners_named (r ∷ rs) (Every.more w h) =
    subst (Every (Named (r ∷ rs))) (sym (owners_more r rs))
    (Every.more (record { proper = w.proper; lower = w.canonical_owner; owns = owns_first r.owner r rs refl })
    (every_by (named_later r rs) (every_except r.owner (owners rs) (owners_named rs h))))

-- ---- the data

module _ (n : List ℕ) (k : RecordType) where
  by_kind : (r : ResourceRecord) (rs : List ResourceRecord) (t : Bool) → is_of n k r ≡ t → RdataOf r.rtype r.rdata → Every (RdataOf k) (data_of n k rs) → Every (RdataOf k) (data_of n k (r ∷ rs))
  by_kind r rs true e w h =
      subst (Every (RdataOf k)) (sym (data_same n k r rs e)) (Every.more (subst (λ (j : RecordType). RdataOf j r.rdata) (is_of_lem n k r e).1 w) h)
  by_kind r rs false e w h = subst (Every (RdataOf k)) (sym (data_other n k r rs e)) h

  -- what the records have of a type is data of that type
  data_fit : (rs : List ResourceRecord) → Every Line.WellFormedRecord rs → Every (RdataOf k) (data_of n k rs)
  data_fit [] h = subst (Every (RdataOf k)) (sym (data_none n k)) Every.none
  data_fit (r ∷ rs) (Every.more w h) = by_kind r rs (is_of n k r) refl w.rdata (data_fit rs h)

first_fits : {P : List ℕ → Type 0} (l : List (List ℕ)) → Every P l → IfSome P (first_of l)
first_fits [] h = tt
first_fits (x ∷ l) (Every.more p h) = p

-- ---- the entries

first_flag : (bit : ℕ) (l : List (List ℕ)) → 1 ≤ length l → flag bit (first_of l) ≡ bit
first_flag bit [] h = absurd (omega arith)
first_flag bit (x ∷ l) h = refl

some_flag : (rs : List ResourceRecord) (n : List ℕ) → Owns n rs → 1 ≤ flags (gathered rs n)
unfolding Owns flags gathered
some_flag rs n (RecordType.A, h) = omega (arith, first_flag 1 (data_of n RecordType.A rs) h)
some_flag rs n (RecordType.AAAA, h) = omega (arith, first_flag 2 (data_of n RecordType.AAAA rs) h)
some_flag rs n (RecordType.DHCID, h) = omega (arith, first_flag 4 (data_of n RecordType.DHCID rs) h)

-- no name stands twice, whatever the records
pub table_distinct : (rs : List ResourceRecord) → Distinct (names (table_of rs))
table_distinct rs = subst Distinct (sym (table_names rs)) (owners_distinct rs)

module _ (rs : List ResourceRecord) (h : Every Line.WellFormedRecord rs) where
  gathered_well_formed : (n : List ℕ) → Named rs n → WellFormed (gathered rs n)
  unfolding gathered RdataOf
  gathered_well_formed n w =
      record {
        proper = w.proper;
        lower = w.lower;
        a = first_fits (data_of n RecordType.A rs) (data_fit n RecordType.A rs h);
        aaaa = first_fits (data_of n RecordType.AAAA rs) (data_fit n RecordType.AAAA rs h);
        dhcid = first_fits (data_of n RecordType.DHCID rs) (data_fit n RecordType.DHCID rs h);
        some = some_flag rs n w.owns;
      }

  pub table_well_formed : Every WellFormed (table_of rs)
  unfolding table_of
  table_well_formed = every_map (gathered rs) gathered_well_formed (owners rs) (owners_named rs h)

  pub table_is : (places : ℕ) → length (owners rs) ≤ places → IsTable places (table_of rs) (table_bytes places (table_of rs))
  table_is places room = record { each = table_well_formed; room = omega (arith, length_table_of rs); form = refl }

  pub table_sound : (places : ℕ) → length (owners rs) ≤ places → Sound places (table_bytes places (table_of rs))
  table_sound places room = record { table = table_of rs; slots = table_is places room; distinct = table_distinct rs }
