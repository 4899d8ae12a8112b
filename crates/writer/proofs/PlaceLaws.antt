-- A place that holds a well-formed record: its bytes' line is the record's, and how long that is. Assumes nothing.
use Prim.Native.Nat.{ℕ, ◌+◌, ◌-◌, ◌≤◌}
use mathlib.Core.Path.{◌≡◌, refl, sym, ap, subst, ◌∙◌}
use mathlib.Core.List.{List, ◌++◌}
use native.Mathlib.Omega.{arith}
use lib.ListN.{length, take, replicate, length-append, length-replicate}
use Rattle.base.specs.Bytes.{padded, zero_filled}
use Rattle.base.proofs.DhcidLaws.{dhcid_length}
use Rattle.name.specs.Promise.{text_of}
use Rattle.name.proofs.WireLaws.{proper_some, proper_short}
use Rattle.grammar.specs.Listing.{RecordType, ResourceRecord}
use Rattle.grammar.specs.Whole.{rdata_size}
use Rattle.entry.specs.Held.{type_number, held}
use Rattle.entry.specs.declared.Record.{Record}
use Rattle.entry.proofs.HeldLaws.{owner_held, rdata_held}
use Rattle.writer.specs.Line.{RdataOf, WellFormedRecord, Holds, line}
use Rattle.writer.specs.Parts.{rest_part, line_of}
use Rattle.writer.proofs.LineLaws.{rest_line}
use Rattle.writer.proofs.PartLaws.{rest_most, length_line}

-- ---- the parts, as they are held

-- the owner's bytes in a place
abbrev pub name_in : Record → List ℕ
name_in p = take p.owner_len p.owner

pub name_held : (p : Record) (r : ResourceRecord) → p ≡ held r → name_in p ≡ r.owner
unfolding held
name_held p r h = ap name_in h ∙ owner_held r.owner

rdata_size_lem : (k : RecordType) (bs : List ℕ) → RdataOf k bs → length bs ≡ rdata_size k
unfolding RdataOf
rdata_size_lem RecordType.A bs e = e
rdata_size_lem RecordType.AAAA bs e = e
rdata_size_lem RecordType.DHCID bs e = dhcid_length bs e

size_most : (k : RecordType) → rdata_size k ≤ 35
size_most RecordType.A = omega arith
size_most RecordType.AAAA = omega arith
size_most RecordType.DHCID = omega arith

length_zero_filled : (k : RecordType) (bs : List ℕ) → length bs ≡ rdata_size k → length (zero_filled bs) ≡ 35
unfolding zero_filled
length_zero_filled k bs size = length-append bs (replicate (35 - length bs) 0) ∙ omega (arith, size_most k, length-replicate {A = ℕ} (35 - length bs) 0)

-- ---- the line

held_line : (r : ResourceRecord) → WellFormedRecord r → line_of (held r) ≡ line r
unfolding line_of held
held_line r h =
    let k = r.rtype in
    let bs = r.rdata in
    ap (λ (n : List ℕ). text_of n ++ rest_part (type_number k) (zero_filled bs)) (owner_held r.owner)
    ∙ rest_line k bs (zero_filled bs) (length_zero_filled k bs (rdata_size_lem k bs h.rdata)) (rdata_held k bs (rdata_size_lem k bs h.rdata)) r.owner

pub place_line : (p : Record) (r : ResourceRecord) → Holds p r → line_of p ≡ line r
place_line p r h = ap line_of h.form ∙ held_line r h.well_formed

-- ---- lengths

-- what a place has that holds a record: an owner, and as many bytes as every place
pub record Occupied (p : Record) : Type 0 where
  pub some : 1 ≤ p.owner_len
  pub within : p.owner_len ≤ length p.owner
  pub short : p.owner_len ≤ 255
  pub long : length p.rdata ≡ 35

held_occupied : (r : ResourceRecord) → WellFormedRecord r → Occupied (held r)
unfolding held padded
held_occupied r h =
    record {
      some = proper_some r.owner h.proper;
      within = omega (arith, length-append r.owner (replicate (255 - length r.owner) 0));
      short = proper_short r.owner h.proper;
      long = length_zero_filled r.rtype r.rdata (rdata_size_lem r.rtype r.rdata h.rdata);
    }

pub place_occupied : (p : Record) (r : ResourceRecord) → Holds p r → Occupied p
place_occupied p r h = subst Occupied (sym h.form) (held_occupied r h.well_formed)

pub place_length : (p : Record) (r : ResourceRecord) → Holds p r → length (line r) ≡ p.owner_len - 1 + length (rest_part p.rtype p.rdata)
place_length p r h =
    let f = place_occupied p r h in
    sym (ap length (place_line p r h)) ∙ length_line p f.some f.within

pub line_short : (r : ResourceRecord) → WellFormedRecord r → length (line r) ≤ 310
line_short r h =
    let p = held r in
    let f = held_occupied r h in
    omega (arith, place_length p r (record { form = refl; well_formed = h }), f.short, rest_most p.rtype p.rdata f.long)
