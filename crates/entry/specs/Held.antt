-- Which bytes a record has where it is held: in a row of records, where document 01 calls it a place, and in what reading an entry gives. Document
-- 01, "The listing's grammar", on the row (docs/RULES.md, 6.5): owners are canonical, and what is not used of a place is zeros; "Language forms":
-- arrays for name and data.
use Rattle.std.specs.Prelude.{ℕ, [], length}
use Rattle.base.specs.Bytes.{padded, zero_filled}
use Rattle.grammar.specs.Listing.{RecordType, ResourceRecord}
use Rattle.entry.specs.declared.Record.{Record}

-- the record types' numbers: RFC 1035 (A), RFC 3596 (AAAA), RFC 4701 (DHCID)
abbrev pub type_number : RecordType → ℕ
type_number RecordType.A = 1
type_number RecordType.AAAA = 28
type_number RecordType.DHCID = 49

-- the bytes of a record: the owner in canonical wire form in 255 bytes and the data in 35, each with zeros after it, the owner's length, and the type's number
unfoldable pub held : ResourceRecord → Record
held r = record { owner = padded r.owner; owner_len = length r.owner; rtype = type_number r.rtype; rdata = zero_filled r.rdata }

-- all zeros
unfoldable pub empty_record : Record
empty_record = record { owner = padded []; owner_len = 0; rtype = 0; rdata = zero_filled [] }
