-- Which bytes are which message. RFC 2136, 2.2 to 2.5; RFC 1035, 3.1 and 4.1.3: bytes are read as the message whose bytes they are, if its names, numbers and counts
-- are such as fit. Any message can be so read, not only one of our four: names with any bytes, the root among them, and sections of any length.
use Rattle.std.specs.Prelude.{ℕ, ◌≤◌, ◌<◌, ◌≡◌, List, length}
use Rattle.base.specs.Logic.{Every}
use Rattle.name.specs.Name.{wire}
use Rattle.update.specs.Message.{ZoneEntry, ResourceRecord, Message, message_bytes}

-- RFC 1035, 3.1: a label of any bytes, 1 to 63 of them
abbrev pub AnyLabel : List ℕ → Type 0
AnyLabel l = (1 ≤ length l) × (length l ≤ 63)

-- a name with no pointer in it (RFC 1035, 4.1.4), of at most 255 bytes; no label at all is the root
pub record Uncompressed (n : List ℕ) : Type 0 where
  pub labels : List (List ℕ)
  pub each : Every AnyLabel labels
  pub form : n ≡ wire labels
  pub short : length n ≤ 255

-- 2.3: type and class have two bytes
pub record ZoneFits (z : ZoneEntry) : Type 0 where
  pub name : Uncompressed z.name
  pub ztype : z.ztype < 65536
  pub class : z.class < 65536

-- RFC 1035, 4.1.3: the lifetime has four bytes, the length of the data two
pub record RecordFits (r : ResourceRecord) : Type 0 where
  pub owner : Uncompressed r.owner
  pub rtype : r.rtype < 65536
  pub class : r.class < 65536
  pub ttl : r.ttl < 4294967296
  pub rdata : length r.rdata < 65536

-- 2.2: the number and the four counts have two bytes each
pub record Fits (m : Message) : Type 0 where
  pub id : m.id < 65536
  pub zones : Every ZoneFits m.zones
  pub prerequisites : Every RecordFits m.prerequisites
  pub updates : Every RecordFits m.updates
  pub additional : Every RecordFits m.additional
  pub zone_count : length m.zones < 65536
  pub prerequisite_count : length m.prerequisites < 65536
  pub update_count : length m.updates < 65536
  pub additional_count : length m.additional < 65536

-- the bytes b are read as the message m
pub record Reads (b : List ℕ) (m : Message) : Type 0 where
  pub fits : Fits m
  pub bytes : b ≡ message_bytes m
