-- The parts of a line by the bytes of a place alone: what the writer's own functions promise of each other. Of a place that holds a well-formed record
-- they are the line of that record (proofs/PlaceLaws.antt, place-line).
use Rattle.std.specs.Prelude.{ℕ, cond, List, [], ◌∷◌, ◌++◌, eqb, take}
use Rattle.base.specs.Bytes.{ascii}
use Rattle.name.specs.Promise.{text_of}
use Rattle.address.specs.Address.{written_a, written_aaaa}
use Rattle.dhcid_text.specs.Dhcid.{base64}
use Rattle.entry.specs.declared.Record.{Record}

-- blank, type, blank, by the number of the type: 1 is A, 28 is AAAA, any other DHCID
unfoldable pub type_part : ℕ → List ℕ
type_part n = cond (eqb n 1) (ascii " A ") (cond (eqb n 28) (ascii " AAAA ") (ascii " DHCID "))

-- the data: of the 35 bytes of a place an A record has the first four, an AAAA record the first sixteen, and a DHCID all
unfoldable pub rdata_part : ℕ → List ℕ → List ℕ
rdata_part n bs = cond (eqb n 1) (written_a (take 4 bs)) (cond (eqb n 28) (written_aaaa (take 16 bs)) (base64 bs))

-- what follows the owner: type, data and byte 10
unfoldable pub rest_part : ℕ → List ℕ → List ℕ
rest_part n bs = type_part n ++ rdata_part n bs ++ ascii "\n"

-- all of the line
unfoldable pub line_of : Record → List ℕ
line_of p = text_of (take p.owner_len p.owner) ++ rest_part p.rtype p.rdata
