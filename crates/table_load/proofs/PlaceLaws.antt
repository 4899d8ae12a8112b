-- The parts of a place, and what their write comes to. Assumes nothing.
use Prim.Native.Nat.{ℕ, ◌-◌, ◌≤◌}
use mathlib.Core.Path.{◌≡◌, refl, sym, ap, subst, ◌∙◌}
use mathlib.Core.List.{List}
use native.Mathlib.Omega.{arith}
use lib.ListN.{length, take, replicate}
use lib.Seq.{take_at}
use Rattle.base.specs.Bytes.{zero_filled}
use Rattle.base.proofs.DhcidLaws.{dhcid_length}
use Rattle.name.specs.Name.{canonical}
use Rattle.name.proofs.WireLaws.{proper_short}
use Rattle.grammar.specs.Listing.{RecordType, ResourceRecord}
use Rattle.entry.specs.Held.{type_number, held}
use Rattle.entry.specs.declared.Record.{Record}
use Rattle.writer.specs.Line.{RdataOf, Holds}
use Rattle.writer.proofs.PlaceLaws.{name_in, name_held}
use Rattle.slots.specs.Form.{TableEntry}
use Rattle.slots.specs.Sizes.{field_size}
use Rattle.slots.specs.declared.Rtype.{Rtype}
use Rattle.records.specs.Promise.{rtype_of, written, stored}
use Rattle.table_load.specs.Promise.{numbered, AtSlot, Storable}

-- ---- the parts of a place

-- the type by the number that stands in a place
type_numbered : (k : RecordType) → numbered (type_number k) ≡ rtype_of k
type_numbered RecordType.A = refl
type_numbered RecordType.AAAA = refl
type_numbered RecordType.DHCID = refl

-- data have as many bytes as their field
data_size : (k : RecordType) (bs : List ℕ) → RdataOf k bs → length bs ≡ field_size (rtype_of k)
unfolding RdataOf
data_size RecordType.A bs e = e
data_size RecordType.AAAA bs e = e
data_size RecordType.DHCID bs e = dhcid_length bs e

data_held : (bs : List ℕ) (n : ℕ) → length bs ≡ n → take n (zero_filled bs) ≡ bs
unfolding zero_filled
data_held bs n e = take_at bs (replicate (35 - length bs) 0) n e

module _ (p : Record) (r : ResourceRecord) (h : Holds p r) where
  name_is : name_in p ≡ r.owner
  name_is = name_held p r h.form

  type_is : (k : Rtype) → k ≡ numbered p.rtype → k ≡ rtype_of r.rtype
  unfolding held
  type_is k e = e ∙ ap (λ (q : Record). numbered q.rtype) h.form ∙ type_numbered r.rtype

  size_is : (k : Rtype) → k ≡ numbered p.rtype → length r.rdata ≡ field_size k
  size_is k e = data_size r.rtype r.rdata h.well_formed.rdata ∙ sym (ap field_size (type_is k e))

  data_is : (k : Rtype) (n : ℕ) → k ≡ numbered p.rtype → n ≡ field_size k → take n p.rdata ≡ r.rdata
  unfolding held
  data_is k n e s = ap (λ (q : Record). take n q.rdata) h.form ∙ data_held r.rdata n (size_is k e ∙ sym s)

-- ---- their write

-- what a write of them asks for
pub record Writable (b : List ℕ) (used i : ℕ) (n : List ℕ) (k : Rtype) (x : List ℕ) : Type 0 where
  pub low : canonical n ≡ n
  pub short : length n ≤ 255
  pub size : length x ≡ field_size k
  pub at : AtSlot b used n i

pub writable : (b : List ℕ) (used i : ℕ) (p : Record) → Storable b used i p → (k : Rtype) (n : ℕ) → k ≡ numbered p.rtype → n ≡ field_size k → Writable b used i (name_in p) k (take n p.rdata)
unfolding Storable
writable b used i p (r, h, at) k n e s =
    let own = name_is p r h in
    record {
      low = ap canonical own ∙ h.well_formed.canonical_owner ∙ sym own;
      short = omega (arith, ap length own, proper_short r.owner h.well_formed.proper);
      size = ap length (data_is p r h k n e s) ∙ size_is p r h k e;
      at = subst (λ (m : List ℕ). AtSlot b used m i) (sym own) at;
    }

-- and what it comes to: the record is stored
pub written_stored : (p : Record) (r : ResourceRecord) → Holds p r → (k : Rtype) (n : ℕ) → k ≡ numbered p.rtype → n ≡ field_size k → (t : List TableEntry)
    → written (name_in p) k (take n p.rdata) t ≡ stored r t
unfolding stored
written_stored p r h k n e s t = λ i. written (name_is p r h i) (type_is p r h k e i) (data_is p r h k n e s i) t
