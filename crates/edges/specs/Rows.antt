-- Document 01, "Both sides of each edge" (docs/RULES.md, 9): the rows that it marks, in its order, as one table under one statement. Each answer is
-- written from there; the bytes of the DHCID are RFC 4701's, 3.6.1, in hexadecimal.
use Rattle.std.specs.Prelude.{ℕ, ◌≡◌, List, [], ◌∷◌, ◌++◌, length, replicate}
use Prim.Native.String.{String}
use Rattle.std.proofs.Math.Option.{Option, none, some}
use Rattle.base.specs.Bytes.{ascii}
use Rattle.base.specs.Logic.{Every}
use Rattle.name.specs.Name.{wire, text, Proper, canonical, SpellsName}
use Rattle.dhcid_text.specs.Dhcid.{SpellsDhcid}
use Rattle.grammar.specs.Outcome.{Outcome, accepted, refused, Checked}
use Rattle.message.specs.Request.{identifier_bytes}
use Rattle.message.specs.declared.Request.{Request}
use Rattle.message4.specs.Message4.{Reads4}

pub data Row : Type 0 where
  -- bytes, and the text of the name that they are in wire form, in lower case; none, if they are no proper name
  name : List ℕ → Option (List ℕ) → Row
  -- the data of DHCPv4 option 61, and the identifier that a request with them has: its type, and its bytes
  identifier : List ℕ → ℕ → List ℕ → Row
  -- the last four characters of a DHCID in base64, and its last two bytes; none, if it is refused
  last_group : String → Option (List ℕ) → Row
  -- a listing, and what reading it answers
  listing : String → Outcome → Row

-- a DHCPv4 request with this option 61: op 1, zeros, the magic cookie, option 53 with the byte 3, option 61, End
unfoldable pub request_with : List ℕ → List ℕ
request_with d = 1 ∷ replicate 235 0 ++ 99 ∷ 130 ∷ 83 ∷ 99 ∷ 53 ∷ 1 ∷ 3 ∷ 61 ∷ length d ∷ d ++ 255 ∷ []

-- RFC 4701, 3.6.1: the DHCID but for its last group, in base64 and in bytes
unfoldable pub digits : List ℕ
digits = ascii "AAIBY2/AuCccgoJbsaxcQc9TUapptP69lOjxfNuVAA2k"

unfoldable pub bytes : List ℕ
bytes =
    0x00 ∷ 0x02 ∷ 0x01 ∷ 0x63 ∷ 0x6f ∷ 0xc0 ∷ 0xb8 ∷ 0x27 ∷ 0x1c ∷ 0x82 ∷ 0x82 ∷ 0x5b ∷ 0xb1 ∷ 0xac ∷ 0x5c ∷ 0x41 ∷ 0xcf
    ∷ 0x53 ∷ 0x51 ∷ 0xaa ∷ 0x69 ∷ 0xb4 ∷ 0xfe ∷ 0xbd ∷ 0x94 ∷ 0xe8 ∷ 0xf1 ∷ 0x7c ∷ 0xdb ∷ 0x95 ∷ 0x00 ∷ 0x0d ∷ 0xa4 ∷ []

abbrev pub Holds : Row → Type 0
Holds (name n (some t)) = Proper n × SpellsName t (canonical n)
Holds (name n none) = Proper n → ⊥
Holds (identifier d k i) = (r : Request) × Reads4 (request_with d) r × (r.refusal ≡ 0) × (r.id_type ≡ k) × (identifier_bytes (request_with d) r ≡ i)
Holds (last_group w (some bs)) = SpellsDhcid ((digits ++ ascii w) ∷ []) (bytes ++ bs)
Holds (last_group w none) = (bs : List ℕ) → SpellsDhcid ((digits ++ ascii w) ∷ []) bs → ⊥
Holds (listing t o) = Checked 65536 (ascii t) o

-- labels of so many letters a
unfoldable pub labels : ℕ → List (List ℕ)
labels last = replicate 63 97 ∷ replicate 63 97 ∷ replicate 63 97 ∷ replicate last 97 ∷ []

unfoldable pub rows : List Row
rows =
    name (0x03 ∷ 0x43 ∷ 0x68 ∷ 0x69 ∷ 0x00 ∷ []) (some (ascii "chi."))
    ∷ name (0x00 ∷ []) none
    ∷ name (wire (labels 61)) (some (text (labels 61)))
    ∷ name (wire (labels 62)) none
    ∷ identifier (255 ∷ 1 ∷ 2 ∷ 3 ∷ 4 ∷ 5 ∷ 6 ∷ 7 ∷ []) 2 (5 ∷ 6 ∷ 7 ∷ [])
    ∷ identifier (255 ∷ 1 ∷ 2 ∷ 3 ∷ 4 ∷ 5 ∷ 6 ∷ []) 1 (255 ∷ 1 ∷ 2 ∷ 3 ∷ 4 ∷ 5 ∷ 6 ∷ [])
    ∷ last_group "jEA=" (some (0x8c ∷ 0x40 ∷ []))
    ∷ last_group "jEB=" none
    ∷ listing "" (accepted [])
    ∷ listing "(" (refused 20 0)
    ∷ listing " a. A 1.2.3.4" (refused 21 0)
    ∷ listing "a. A 01.2.3.4" (refused 24 0)
    ∷ []

-- every row holds
unfoldable pub Hold : Type 0
Hold = Every Holds rows
