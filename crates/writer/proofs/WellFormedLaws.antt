-- Every record that a listing spells is well formed. Assumes nothing.
use Prim.Native.Nat.{ℕ, zero, suc, ◌*◌, ◌/◌, ◌^◌, ◌<◌}
use mathlib.Core.Path.{◌≡◌, sym, ap, subst, ◌∙◌}
use mathlib.Core.List.{List, [], ◌∷◌}
use native.Mathlib.Nat.{mod-lt}
use native.Mathlib.Omega.{arith}
use Rattle.base.specs.Bytes.{big_endian, in_bytes}
use Rattle.base.specs.Logic.{Every}
use Rattle.base.proofs.Lists.{every_append}
use Rattle.name.specs.Name.{Proper, canonical}
use Rattle.name.proofs.Theorems.{canonical_form, spelled_proper}
use Rattle.grammar.specs.Listing.{RecordType, ResourceRecord, Owner, Rdata, RecordEntry, Records}
use Rattle.grammar.proofs.SizeLaws.{rdata_size_lem}
use Rattle.writer.specs.Line.{RdataOf, WellFormedRecord}

-- ---- numbers in bytes

small_number : (n x : ℕ) → Every (λ b. b < 256) (big_endian n x)
unfolding big_endian
small_number zero x = Every.none
small_number (suc n) x = Every.more (mod-lt (x / 2 ^ (8 * n)) (omega arith)) (small_number n x)

small_numbers : (n : ℕ) (xs : List ℕ) → Every (λ b. b < 256) (in_bytes n xs)
unfolding in_bytes
small_numbers n [] = Every.none
small_numbers n (x ∷ xs) = every_append (big_endian n x) (in_bytes n xs) (small_number n x) (small_numbers n xs)

-- ---- owner and data

pub owner_proper : (w n : List ℕ) → Owner w n → Proper n
owner_proper w n o = subst Proper (sym o.form) (canonical_form o.wire (spelled_proper w o.wire o.spells)).proper

owner_canonical : (w n : List ℕ) → Owner w n → canonical n ≡ n
owner_canonical w n o =
    ap canonical o.form ∙ (canonical_form o.wire (spelled_proper w o.wire o.spells)).again ∙ sym o.form

rdata_bytes : (k : RecordType) (ds : List (List ℕ)) (bs : List ℕ) → Rdata k ds bs → Every (λ b. b < 256) bs
rdata_bytes k ds bs (Rdata.in_a s) = s.bytes
rdata_bytes k ds bs (Rdata.in_aaaa s) = subst (Every (λ b. b < 256)) (sym s.bytes) (small_numbers 2 s.numbers)
rdata_bytes k ds bs (Rdata.in_dhcid s) = s.bytes

rdata_form : (k : RecordType) (ds : List (List ℕ)) (bs : List ℕ) → Rdata k ds bs → RdataOf k bs
unfolding RdataOf
rdata_form k ds bs (Rdata.in_a s) = rdata_size_lem (Rdata.in_a s)
rdata_form k ds bs (Rdata.in_aaaa s) = rdata_size_lem (Rdata.in_aaaa s)
rdata_form k ds bs (Rdata.in_dhcid s) = s.test

-- ---- entries

entry_well_formed : (e : List ℕ) (r : ResourceRecord) → RecordEntry e r → WellFormedRecord r
entry_well_formed e r h =
    record {
      proper = owner_proper h.owner r.owner h.name;
      canonical_owner = owner_canonical h.owner r.owner h.name;
      bytes = rdata_bytes r.rtype h.data_words r.rdata h.rdata;
      rdata = rdata_form r.rtype h.data_words r.rdata h.rdata;
    }

pub records_well_formed : {es : List (List ℕ)} {rs : List ResourceRecord} → Records es rs → Every WellFormedRecord rs
records_well_formed Records.none = Every.none
records_well_formed (Records.no_record w h) = records_well_formed h
records_well_formed (Records.a_record {e} {r = r} z h) = Every.more (entry_well_formed e r z) (records_well_formed h)
