-- The bytes of the table of names, and which bytes are a table's. Document 01, "The table" (docs/RULES.md, 7.1 and 7.2): up to so many names in order
-- of arrival, each with at least one record; sound. The number of names is a parameter; the calls have `most_names` (Sizes.antt). A slot has the
-- name's wire length, the name in 255 bytes, flags, A, AAAA and DHCID; what is absent is zeros, and so is an unused slot. Used slots come first.
use Rattle.std.specs.Prelude.{ℕ, ◌+◌, ◌-◌, ◌*◌, ◌≤◌, true, ◌≡◌, List, [], ◌∷◌, ◌++◌, length, replicate}
use Rattle.std.proofs.Math.Option.{Option, none, some}
use Rattle.base.specs.Bytes.{padded}
use Rattle.base.specs.Dhcid.{well_formed}
use Rattle.base.specs.Logic.{Every, IfSome}
use Rattle.name.specs.Name.{Proper, canonical}
use Rattle.slots.specs.Entry.{Entry, names, Distinct}
use Rattle.slots.specs.Sizes.{slot_size, field_size, field_bit}
use Rattle.slots.specs.declared.Rtype.TheVariants.{A, Aaaa, Dhcid}

-- ---- one slot

-- an entry of the table: its holder is a DHCID
abbrev pub TableEntry : Type 0
TableEntry = Entry (List ℕ)

-- a field that may be absent, of so many bytes, and its flag
abbrev pub field : ℕ → Option (List ℕ) → List ℕ
field size none = replicate size 0
field size (some x) = x

abbrev pub flag : ℕ → Option (List ℕ) → ℕ
flag bit none = 0
flag bit (some x) = bit

unfoldable pub flags : TableEntry → ℕ
flags e = flag (field_bit A) e.a + flag (field_bit Aaaa) e.aaaa + flag (field_bit Dhcid) e.holder

unfoldable pub slot_bytes : TableEntry → List ℕ
slot_bytes e = length e.name ∷ padded e.name ++ flags e ∷ field (field_size A) e.a ++ field (field_size Aaaa) e.aaaa ++ field (field_size Dhcid) e.holder

-- an entry that a sound table can have: the name is proper and canonical, addresses have their sizes, the DHCID passes refusal 15's test, and one of the three is there
pub record WellFormed (e : TableEntry) : Type 0 where
  pub proper : Proper e.name
  pub lower : canonical e.name ≡ e.name
  pub a : IfSome (λ x. length x ≡ field_size A) e.a
  pub aaaa : IfSome (λ x. length x ≡ field_size Aaaa) e.aaaa
  pub dhcid : IfSome (λ x. well_formed x ≡ true) e.holder
  pub some : 1 ≤ flags e

-- the bytes s are those of such an entry
unfoldable pub IsSlot : List ℕ → Type 0
IsSlot s = (e : TableEntry) × WellFormed e × (s ≡ slot_bytes e)

-- ---- the table

unfoldable pub used_slots : List TableEntry → List ℕ
used_slots [] = []
used_slots (e ∷ t) = slot_bytes e ++ used_slots t

-- the bytes of a table that has room for so many names
unfoldable pub table_bytes : ℕ → List TableEntry → List ℕ
table_bytes limit t = used_slots t ++ replicate (slot_size * (limit - length t)) 0

-- the bytes b are those of the entries t: every slot is well formed, and the used ones come first
pub record IsTable (limit : ℕ) (t : List TableEntry) (b : List ℕ) : Type 0 where
  pub each : Every WellFormed t
  pub room : length t ≤ limit
  pub form : b ≡ table_bytes limit t

-- document 01's sound (docs/RULES.md, 7.2): that, and no name stands twice
pub record Sound (limit : ℕ) (b : List ℕ) : Type 0 where
  pub table : List TableEntry
  pub slots : IsTable limit table b
  pub distinct : Distinct (names table)
