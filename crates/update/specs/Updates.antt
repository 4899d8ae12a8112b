-- The four messages that carry an add and a remove to a name server. Document 02, K8 (docs/RULES.md, 13.2); RFC 4703, 5.3 and 5.5. Names are in
-- canonical form here. The records stand in this order.
use Rattle.std.specs.Prelude.{ℕ, List, [], ◌∷◌}
use Rattle.slots.specs.declared.Family.{Family}
use Rattle.slots.specs.declared.Family.TheVariants.{V4, V6}
use Rattle.update.specs.Message.{ZoneEntry, ResourceRecord, Message, type_a, type_soa, type_aaaa, type_dhcid, type_any, class_in, class_none, class_any}
use Rattle.update.specs.declared.Kind.{Kind}
use Rattle.update.specs.declared.Kind.TheVariants.{AddFirst, AddSecond, RemoveFirst}

-- document 02, K8: the lifetime of what is added, in seconds
abbrev pub lifetime : ℕ
lifetime = 3600

-- the type of the record that has a family's address
abbrev pub address_record : Family → ℕ
address_record V4 = type_a
address_record V6 = type_aaaa

-- ---- prerequisites: RFC 2136, 2.4

-- 2.4.5: the name is not in use
abbrev pub name_not_in_use : List ℕ → ResourceRecord
name_not_in_use n = record { owner = n; rtype = type_any; class = class_none; ttl = 0; rdata = [] }

-- 2.4.2: the name has a record set of that type, which is just this record
abbrev pub set_is : List ℕ → ℕ → List ℕ → ResourceRecord
set_is n t x = record { owner = n; rtype = t; class = class_in; ttl = 0; rdata = x }

-- 2.4.3: the name has no record of that type
abbrev pub no_set : List ℕ → ℕ → ResourceRecord
no_set n t = record { owner = n; rtype = t; class = class_none; ttl = 0; rdata = [] }

-- ---- updates: RFC 2136, 2.5

-- 2.5.1: the record is added
abbrev pub added : List ℕ → ℕ → List ℕ → ResourceRecord
added n t x = record { owner = n; rtype = t; class = class_in; ttl = lifetime; rdata = x }

-- 2.5.2: the name's records of that type are deleted
abbrev pub set_deleted : List ℕ → ℕ → ResourceRecord
set_deleted n t = record { owner = n; rtype = t; class = class_any; ttl = 0; rdata = [] }

-- 2.5.4: this record is deleted
abbrev pub record_deleted : List ℕ → ℕ → List ℕ → ResourceRecord
record_deleted n t x = record { owner = n; rtype = t; class = class_none; ttl = 0; rdata = x }

-- ---- the messages: one zone, of type SOA and class IN, and nothing additional

abbrev pub the_zone : List ℕ → ZoneEntry
the_zone z = record { name = z; ztype = type_soa; class = class_in }

abbrev pub update : ℕ → List ℕ → List ResourceRecord → List ResourceRecord → Message
update id z ps us = record { id = id; zones = the_zone z ∷ []; prerequisites = ps; updates = us; additional = [] }

-- In the four messages z is the zone, n the name, d the DHCID and x the address, whose record has the type t.

-- if the name is not in use, it gets the address and the DHCID
unfoldable pub add_first : ℕ → List ℕ → List ℕ → List ℕ → ℕ → List ℕ → Message
add_first id z n d t x = update id z (name_not_in_use n ∷ []) (added n t x ∷ added n type_dhcid d ∷ [])

-- if its DHCID is just this, its addresses of that type are deleted and this one is added
unfoldable pub add_second : ℕ → List ℕ → List ℕ → List ℕ → ℕ → List ℕ → Message
add_second id z n d t x = update id z (set_is n type_dhcid d ∷ []) (set_deleted n t ∷ added n t x ∷ [])

-- if its DHCID and its address of that type are just these, the address is deleted
unfoldable pub remove_first : ℕ → List ℕ → List ℕ → List ℕ → ℕ → List ℕ → Message
remove_first id z n d t x = update id z (set_is n type_dhcid d ∷ set_is n t x ∷ []) (record_deleted n t x ∷ [])

-- if its DHCID is just this and it has neither an A nor an AAAA, the DHCID is deleted
unfoldable pub remove_second : ℕ → List ℕ → List ℕ → List ℕ → Message
remove_second id z n d = update id z (set_is n type_dhcid d ∷ no_set n type_a ∷ no_set n type_aaaa ∷ []) (record_deleted n type_dhcid d ∷ [])

-- those of an address, by their kind
abbrev pub of_kind : Kind → ℕ → List ℕ → List ℕ → List ℕ → ℕ → List ℕ → Message
of_kind AddFirst = add_first
of_kind AddSecond = add_second
of_kind RemoveFirst = remove_first
