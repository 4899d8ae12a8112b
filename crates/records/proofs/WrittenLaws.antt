-- The records of a table whose bytes are below 256 can be written: they are well formed, so that their lines spell them. Assumes nothing.
use Prim.Native.Nat.{ℕ, ◌-◌, ◌*◌, ◌<◌}
use mathlib.Core.Path.{◌≡◌, subst}
use mathlib.Core.List.{List, [], ◌∷◌, ◌++◌}
use mathlib.Core.Option.{Option, none, some}
use lib.ListN.{length, replicate}
use Rattle.base.specs.Bytes.{padded}
use Rattle.base.specs.Logic.{Every, IfSome}
use Rattle.base.proofs.Lists.{every_append, every_left, every_right}
use Rattle.name.specs.Name.{Proper, canonical}
use Rattle.grammar.specs.Listing.{RecordType, Spells}
use Rattle.writer.specs.Line
use Rattle.writer.specs.Line.{RdataOf}
use Rattle.writer.proofs.Theorems.{lines_spell}
use Rattle.slots.specs.Form.{TableEntry, field, flags, slot_bytes, WellFormed, used_slots, table_bytes, IsTable}
use Rattle.slots.specs.Sizes.{slot_size}
use Rattle.records.specs.Written.{record_if, entry_records, table_records, listing_of}

-- ---- the bytes of each part

abbrev Bytes : List ℕ → Type 0
Bytes l = Every (λ x. x < 256) l

field_bytes : (size : ℕ) (o : Option (List ℕ)) → Bytes (field size o) → IfSome Bytes o
field_bytes size none h = tt
field_bytes size (some x) h = h

-- what an entry has consists of bytes, if its slot does
record EntryBytes (e : TableEntry) : Type 0 where
  a : IfSome Bytes e.a
  aaaa : IfSome Bytes e.aaaa
  dhcid : IfSome Bytes e.holder

slot_bytes_lem : (e : TableEntry) → Bytes (slot_bytes e) → EntryBytes e
unfolding slot_bytes
slot_bytes_lem e h =
    let v = length e.name ∷ padded e.name in
    let a = flags e ∷ field 4 e.a in
    let b = field 16 e.aaaa in
    let d = field 35 e.holder in
    let upto = every_left (v ++ a ++ b) d h in
    record {
      a = field_bytes 4 e.a (every_right (flags e ∷ []) (field 4 e.a) (every_right v a (every_left (v ++ a) b upto)));
      aaaa = field_bytes 16 e.aaaa (every_right (v ++ a) b upto);
      dhcid = field_bytes 35 e.holder (every_right (v ++ a ++ b) d h);
    }

used_bytes : (t : List TableEntry) → Bytes (used_slots t) → Every EntryBytes t
unfolding used_slots
used_bytes [] h = Every.none
used_bytes (e ∷ t) h = Every.more (slot_bytes_lem e (every_left (slot_bytes e) (used_slots t) h)) (used_bytes t (every_right (slot_bytes e) (used_slots t) h))

table_bytes_lem : (places : ℕ) (t : List TableEntry) → Bytes (table_bytes places t) → Every EntryBytes t
unfolding table_bytes
table_bytes_lem places t h = used_bytes t (every_left (used_slots t) (replicate (slot_size * (places - length t)) 0) h)

-- ---- the records

module _ (n : List ℕ) (proper : Proper n) (lower : canonical n ≡ n) (k : RecordType) where
  field_well_formed : (o : Option (List ℕ)) → IfSome (RdataOf k) o → IfSome Bytes o → Every Line.WellFormedRecord (record_if n k o)
  field_well_formed none h b = Every.none
  field_well_formed (some x) h b = Every.more (record { proper = proper; canonical_owner = lower; bytes = b; rdata = h }) Every.none

entry_well_formed : (e : TableEntry) → WellFormed e → EntryBytes e → Every Line.WellFormedRecord (entry_records e)
unfolding entry_records RdataOf
entry_well_formed e w b =
    every_append _ _
    (every_append _ _ (field_well_formed e.name w.proper w.lower RecordType.A e.a w.a b.a)
    (field_well_formed e.name w.proper w.lower RecordType.AAAA e.aaaa w.aaaa b.aaaa))
    (field_well_formed e.name w.proper w.lower RecordType.DHCID e.holder w.dhcid b.dhcid)

all_well_formed : (t : List TableEntry) → Every WellFormed t → Every EntryBytes t → Every Line.WellFormedRecord (table_records t)
unfolding table_records
all_well_formed [] h b = Every.none
all_well_formed (e ∷ t) (Every.more w h) (Every.more c b) = every_append (entry_records e) (table_records t) (entry_well_formed e w c) (all_well_formed t h b)

-- ---- the table

module _ (places : ℕ) (t : List TableEntry) (b : List ℕ) (table : IsTable places t b) (bytes : Every (λ x. x < 256) b) where
  pub records_well_formed : Every Line.WellFormedRecord (table_records t)
  records_well_formed = all_well_formed t table.each (table_bytes_lem places t (subst Bytes table.form bytes))

  pub listing_spells : Spells (listing_of t) (table_records t)
  unfolding listing_of
  listing_spells = lines_spell (table_records t) records_well_formed
