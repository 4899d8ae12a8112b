-- The sizes of the reverse side, each number once, by its name. Document 02, K7 (docs/RULES.md, 12.2): at most 128 reverse names. A slot has the family (1 byte),
-- the address (16), the name's wire length (1) and the name (255), in this order (Form.antt).
use Rattle.std.specs.Prelude.{ℕ, ◌+◌, ◌*◌}

-- the bytes of the greater address, which are kept for either
abbrev pub address_room : ℕ
address_room = 16

-- family and address: 17 bytes, by which a slot is found
abbrev pub key_size : ℕ
key_size = 1 + address_room

-- the name's length and the name: the first 256 bytes of a slot of the table
abbrev pub name_size : ℕ
name_size = 256

-- the step from slot to slot: 273 bytes
abbrev pub reverse_slot_size : ℕ
reverse_slot_size = key_size + name_size

-- how many addresses there is room for
abbrev pub most_addresses : ℕ
most_addresses = 128

-- the bytes of a reverse side: 34,944
abbrev pub reverse_size : ℕ
reverse_size = reverse_slot_size * most_addresses
