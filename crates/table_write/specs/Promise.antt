-- What the functions below a write promise one another.
use Rattle.std.specs.Prelude.{ℕ, ◌+◌, ◌≤◌, ◌≡◌, List, length}
use Rattle.base.specs.Bytes.{overlay}
use Rattle.grammar.specs.Listing.{RecordType}
use Rattle.writer.specs.Line.{lines}
use Rattle.slots.specs.Fields.{in_field}
use Rattle.slots.specs.Form.{TableEntry, WellFormed, slot_bytes, IsTable}
use Rattle.slots.specs.declared.Rtype.{Rtype}
use Rattle.slots.specs.declared.Rtype.TheVariants.{A, Aaaa, Dhcid}
use Rattle.records.specs.Written.{record_if, entry_records, listing_of}

-- a field's type by the name that a listing has for it
abbrev pub type_of : Rtype → RecordType
type_of A = RecordType.A
type_of Aaaa = RecordType.AAAA
type_of Dhcid = RecordType.DHCID

-- the line of an entry's record of a type; no bytes, if it has none
unfoldable pub field_text : Rtype → TableEntry → List ℕ
field_text k e = lines (record_if e.name (type_of k) (in_field k e))

-- the lines of an entry
unfoldable pub entry_text : TableEntry → List ℕ
entry_text e = lines (entry_records e)

-- the bytes s are the slot of an entry, and `to` has room for its text from index `at` on
pub record SlotFits (text : TableEntry → List ℕ) (s : List ℕ) (at : ℕ) (to : List ℕ) : Type 0 where
  pub entry : TableEntry
  pub well_formed : WellFormed entry
  pub form : s ≡ slot_bytes entry
  pub room : at + length (text entry) ≤ length to

-- the bytes b are those of a table, and `to` has room for its listing
pub record TableFits (limit : ℕ) (b to : List ℕ) : Type 0 where
  pub table : List TableEntry
  pub slots : IsTable limit table b
  pub room : length (listing_of table) ≤ length to

-- the text x was written into `to` from index `at` on, up to `end`; `to` then is `left`
pub record Puts (x : List ℕ) (at : ℕ) (to : List ℕ) (end : ℕ) (left : List ℕ) : Type 0 where
  pub ends : end ≡ at + length x
  pub bytes : left ≡ overlay to at x
