-- The records of a table, and the listing that is written for it. Document 01, "The table", "Writing" (docs/RULES.md, 7.8): per name A, AAAA and
-- DHCID, as far as it has them, each on the line that the writer of one record spells.
use Rattle.std.specs.Prelude.{ℕ, List, [], ◌∷◌, ◌++◌}
use Rattle.std.proofs.Math.Option.{Option, none, some}
use Rattle.grammar.specs.Listing.{RecordType, ResourceRecord}
use Rattle.writer.specs.Line.{lines}
use Rattle.slots.specs.Form.{TableEntry}

-- the record of a type under the name n, if there is one
abbrev pub record_if : List ℕ → RecordType → Option (List ℕ) → List ResourceRecord
record_if n k none = []
record_if n k (some x) = record { owner = n; rtype = k; rdata = x } ∷ []

-- the records under one name
unfoldable pub entry_records : TableEntry → List ResourceRecord
entry_records e = record_if e.name RecordType.A e.a ++ record_if e.name RecordType.AAAA e.aaaa ++ record_if e.name RecordType.DHCID e.holder

-- those of a table, name after name
unfoldable pub table_records : List TableEntry → List ResourceRecord
table_records [] = []
table_records (e ∷ t) = entry_records e ++ table_records t

-- the text that is written for a table
unfoldable pub listing_of : List TableEntry → List ℕ
listing_of t = lines (table_records t)
