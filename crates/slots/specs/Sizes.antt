-- The sizes of the table of names, and where the parts of a slot stand: each number once, by its name. Document 01, "The table" (docs/RULES.md, 7.1
-- and 7.2): room for 64 names, each with at most one A, one AAAA and one DHCID. A slot has the name's wire length (1 byte), the name (255), flags
-- (1), and the three fields, in this order (Form.antt).
use Rattle.std.specs.Prelude.{ℕ, ◌+◌, ◌*◌}
use Rattle.slots.specs.declared.Family.{Family}
use Rattle.slots.specs.declared.Family.TheVariants.{V4, V6}
use Rattle.slots.specs.declared.Rtype.{Rtype}
use Rattle.slots.specs.declared.Rtype.TheVariants.{A, Aaaa, Dhcid}

-- ---- the parts of a slot

-- where the flags stand
abbrev pub flags_at : ℕ
flags_at = 256

-- of the field that holds a record's data, by the record's type: how many bytes it has, where it begins, and its flag
abbrev pub field_size : Rtype → ℕ
field_size A = 4
field_size Aaaa = 16
field_size Dhcid = 35

abbrev pub field_at : Rtype → ℕ
field_at A = flags_at + 1
field_at Aaaa = flags_at + 1 + field_size A
field_at Dhcid = flags_at + 1 + field_size A + field_size Aaaa

abbrev pub field_bit : Rtype → ℕ
field_bit A = 1
field_bit Aaaa = 2
field_bit Dhcid = 4

-- the three flags together
abbrev pub all_flags : ℕ
all_flags = field_bit A + field_bit Aaaa + field_bit Dhcid

-- the type of the record that has a family's address
abbrev pub address_type : Family → Rtype
address_type V4 = A
address_type V6 = Aaaa

-- the six parts together: 312 bytes
abbrev pub body_size : ℕ
body_size = field_at Dhcid + field_size Dhcid

-- the step from slot to slot: a slot has no other parts
abbrev pub slot_size : ℕ
slot_size = body_size

-- ---- the table

-- how many names a table has room for
abbrev pub most_names : ℕ
most_names = 64

-- how many records it then has at most, three to a name: 192
abbrev pub most_records : ℕ
most_records = 3 * most_names

-- the bytes of a table: 19,968
abbrev pub table_size : ℕ
table_size = slot_size * most_names
