-- The bytes of the reverse side, and which bytes are one. Document 02, K7 (docs/RULES.md, 12.2): for each address one name, names proper and canonical, no address
-- twice; the byte form is docs/DECISIONS.md's. A slot has the family's number, the address, the name's wire length and the name; what is not used is zeros, and
-- so is an unused slot. Used slots come first. The number of addresses is a parameter; the calls have `most_addresses` (Sizes.antt).
use Rattle.std.specs.Prelude.{ℕ, ◌-◌, ◌≡◌, List, ◌∷◌, ◌++◌, length, replicate}
use Rattle.base.specs.Bytes.{padded}
use Rattle.base.specs.Rows.{row_bytes, IsRow}
use Rattle.name.specs.Name.{Proper, canonical}
use Rattle.slots.specs.Entry.{address_size}
use Rattle.slots.specs.declared.Family.{Family}
use Rattle.slots.specs.declared.Family.TheVariants.{V4, V6}
use Rattle.reverse.specs.Entry.{ReverseEntry, Single}
use Rattle.reverse.specs.Sizes.{address_room, reverse_slot_size}

-- ---- one slot

-- the number of a family, as a call gives it
abbrev pub family_number : Family → ℕ
family_number V4 = 4
family_number V6 = 6

-- family and address
unfoldable pub key_bytes : Family → List ℕ → List ℕ
key_bytes f x = family_number f ∷ x ++ replicate (address_room - length x) 0

unfoldable pub slot_bytes : ReverseEntry → List ℕ
slot_bytes r = key_bytes r.family r.address ++ length r.name ∷ padded r.name

-- an entry that a sound reverse side can have: the address has its family's size, the name is proper and canonical
pub record WellFormed (r : ReverseEntry) : Type 0 where
  pub sized : length r.address ≡ address_size r.family
  pub proper : Proper r.name
  pub lower : canonical r.name ≡ r.name

-- ---- the reverse side

-- the bytes of a reverse side that has room for so many addresses
unfoldable pub reverse_bytes : ℕ → List ReverseEntry → List ℕ
reverse_bytes limit rs = row_bytes slot_bytes reverse_slot_size limit rs

-- the bytes b are those of the entries rs: every slot is well formed, and the used ones come first
abbrev pub IsReverse : ℕ → List ReverseEntry → List ℕ → Type 0
IsReverse limit rs b = IsRow slot_bytes reverse_slot_size WellFormed limit rs b

-- sound, as refusal 40 asks it of the reverse side: that, and no address stands twice
pub record SoundReverse (limit : ℕ) (b : List ℕ) : Type 0 where
  pub names : List ReverseEntry
  pub slots : IsReverse limit names b
  pub single : Single names
