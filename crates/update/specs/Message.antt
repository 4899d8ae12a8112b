-- An UPDATE message: its sections and its bytes. RFC 2136, 2.2 to 2.5; RFC 1035, 3.2.2, 3.2.4 and 4.1.3; document 02, K8 (docs/RULES.md, 13.2).
-- Numbers have their high byte first, and names stand whole: none is compressed.
use Rattle.std.specs.Prelude.{ℕ, List, [], ◌∷◌, ◌++◌, length}
use Rattle.base.specs.Bytes.{big_endian}

-- ---- types and classes, by their numbers

-- RFC 1035, 3.2.2
abbrev pub type_a : ℕ
type_a = 1

abbrev pub type_soa : ℕ
type_soa = 6

-- RFC 3596, 2.1
abbrev pub type_aaaa : ℕ
type_aaaa = 28

-- RFC 4701, 2
abbrev pub type_dhcid : ℕ
type_dhcid = 49

-- RFC 1035, 3.2.3: every type
abbrev pub type_any : ℕ
type_any = 255

-- RFC 1035, 3.2.4
abbrev pub class_in : ℕ
class_in = 1

-- RFC 2136, 2.4 and 2.5: none, and any
abbrev pub class_none : ℕ
class_none = 254

abbrev pub class_any : ℕ
class_any = 255

-- ---- the sections

-- 2.3: the zone
pub record ZoneEntry : Type 0 where
  pub name : List ℕ
  pub ztype : ℕ
  pub class : ℕ

-- RFC 1035, 4.1.3: a record; its lifetime is the TTL
pub record ResourceRecord : Type 0 where
  pub owner : List ℕ
  pub rtype : ℕ
  pub class : ℕ
  pub ttl : ℕ
  pub rdata : List ℕ

-- 2.1: a message, with its number
pub record Message : Type 0 where
  pub id : ℕ
  pub zones : List ZoneEntry
  pub prerequisites : List ResourceRecord
  pub updates : List ResourceRecord
  pub additional : List ResourceRecord

-- ---- the bytes

-- 2.2: the number; QR 0, opcode 5, Z 0 and RCODE 0, which is 28 00; how many the four sections have (ZOCOUNT, PRCOUNT, UPCOUNT, ADCOUNT)
unfoldable pub header_bytes : ℕ → ℕ → ℕ → ℕ → ℕ → List ℕ
header_bytes id zo pr up ad = big_endian 2 id ++ (0x28 ∷ 0 ∷ []) ++ big_endian 2 zo ++ big_endian 2 pr ++ big_endian 2 up ++ big_endian 2 ad

-- 2.3: name, type, class
unfoldable pub zone_entry_bytes : ZoneEntry → List ℕ
zone_entry_bytes z = z.name ++ big_endian 2 z.ztype ++ big_endian 2 z.class

unfoldable pub zone_bytes : List ZoneEntry → List ℕ
zone_bytes [] = []
zone_bytes (z ∷ zs) = zone_entry_bytes z ++ zone_bytes zs

-- RFC 1035, 4.1.3: between owner and data stand the type, the class, the lifetime and the length of the data
unfoldable pub fixed_bytes : ℕ → ℕ → ℕ → ℕ → List ℕ
fixed_bytes rtype class ttl len = big_endian 2 rtype ++ big_endian 2 class ++ big_endian 4 ttl ++ big_endian 2 len

unfoldable pub rr_bytes : ResourceRecord → List ℕ
rr_bytes r = r.owner ++ fixed_bytes r.rtype r.class r.ttl (length r.rdata) ++ r.rdata

unfoldable pub section_bytes : List ResourceRecord → List ℕ
section_bytes [] = []
section_bytes (r ∷ rs) = rr_bytes r ++ section_bytes rs

-- 2.1: the header, and the four sections
unfoldable pub message_bytes : Message → List ℕ
message_bytes m =
    header_bytes m.id (length m.zones) (length m.prerequisites) (length m.updates) (length m.additional)
    ++ zone_bytes m.zones ++ section_bytes m.prerequisites ++ section_bytes m.updates ++ section_bytes m.additional
