-- How a record is written: the line of a listing that the writer spells for it. Document 01, "The table", writing; "Names", text; "DHCID bytes and their
-- text", text written (docs/RULES.md, 6.7, 3.3 and 5.3). What a listing's lines spell is another matter, which `grammar` says; proofs/Theorems.antt
-- has that they spell what was written.
use Rattle.std.specs.Prelude.{ℕ, ◌+◌, ◌<◌, true, cond, ◌≡◌, List, [], ◌∷◌, ◌++◌, leb, length}
use Rattle.base.specs.declared.Answer.{Answer}
use Rattle.base.specs.declared.Answer.TheVariants.{Accepted, Refused}
use Rattle.base.specs.Bytes.{ascii, overlay}
use Rattle.base.specs.Dhcid.{well_formed}
use Rattle.base.specs.Logic.{Every}
use Rattle.base.specs.Refusal.{output_short}
use Rattle.name.specs.Name.{Proper, canonical}
use Rattle.name.specs.Promise.{text_of}
use Rattle.address.specs.Address.{written_a, written_aaaa}
use Rattle.dhcid_text.specs.Dhcid.{base64}
use Rattle.grammar.specs.Listing.{RecordType, mnemonic, ResourceRecord}
use Rattle.entry.specs.Held.{held}
use Rattle.entry.specs.declared.Record.{Record}

-- ---- which records can be written

-- the data of each type: four bytes, sixteen bytes, or a DHCID's (refusal 15's test)
unfoldable pub RdataOf : RecordType → List ℕ → Type 0
RdataOf RecordType.A bs = length bs ≡ 4
RdataOf RecordType.AAAA bs = length bs ≡ 16
RdataOf RecordType.DHCID bs = well_formed bs ≡ true

-- a well-formed record: its owner a proper name in canonical wire form, its data bytes that its type may have. Every record that a listing spells is one
pub record WellFormedRecord (r : ResourceRecord) : Type 0 where
  pub proper : Proper r.owner
  pub canonical_owner : canonical r.owner ≡ r.owner
  pub bytes : Every (λ b. b < 256) r.rdata
  pub rdata : RdataOf r.rtype r.rdata

-- the bytes of the place p hold the well-formed record r
pub record Holds (p : Record) (r : ResourceRecord) : Type 0 where
  pub form : p ≡ held r
  pub well_formed : WellFormedRecord r

-- a place that can be written: it holds some well-formed record
unfoldable pub Writable : Record → Type 0
Writable p = (r : ResourceRecord) × Holds p r

-- ---- the line

-- the data as they are written: decimal numbers with dots; groups of four lower-case digits with colons; base64
unfoldable pub rdata_text : RecordType → List ℕ → List ℕ
rdata_text RecordType.A bs = written_a bs
rdata_text RecordType.AAAA bs = written_aaaa bs
rdata_text RecordType.DHCID bs = base64 bs

-- owner, blank, type, blank, data, byte 10
unfoldable pub line : ResourceRecord → List ℕ
line r = text_of r.owner ++ ascii " " ++ mnemonic r.rtype ++ ascii " " ++ rdata_text r.rtype r.rdata ++ ascii "\n"

-- the lines of records, one after the other
unfoldable pub lines : List ResourceRecord → List ℕ
lines [] = []
lines (r ∷ rs) = line r ++ lines rs

-- ---- what writing the bytes l into a lent slice answers, from the index at on, and what the slice then holds: 13 where it has no room, and it stays as it is

unfoldable pub put_answer : List ℕ → ℕ → List ℕ → Answer
put_answer l at to = cond (leb (at + length l) (length to)) (Accepted (length l)) (Refused output_short 0)

unfoldable pub put_bytes : List ℕ → ℕ → List ℕ → List ℕ
put_bytes l at to = cond (leb (at + length l) (length to)) (overlay to at l) to
