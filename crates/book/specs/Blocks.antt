-- The 512 bytes of a block, and what they say. Document 02, K5 (docs/RULES.md, 11.1): number (4 bytes, the highest first), kind (1), then a slot of the
-- table as it is there (wire length, name, flags, A, AAAA, DHCID), zeros up to byte 479, and the SHA-256 of these 480 bytes. Only the bytes that are
-- written are defined: no decoder stands here.
use Rattle.std.specs.Prelude.{ℕ, ◌+◌, ◌-◌, ◌^◌, ◌<◌, ◌≡◌, List, ◌∷◌, ◌++◌, replicate}
use Rattle.std.proofs.Math.Option.{some}
use Rattle.base.specs.Bytes.{big_endian}
use Rattle.block.specs.Sealed.{body_size, sealed}
use Rattle.slots.specs.Fields.{bare}
use Rattle.slots.specs.Form.{TableEntry, WellFormed, slot_bytes}
use Rattle.slots.specs.Sizes.{slot_size}
use Rattle.slots.specs.SlotTests.{HeldName}
use Rattle.table.specs.Steps.{find}
use Rattle.book.specs.Notes.{Note}

-- ---- the bytes

-- where the slot stands: behind the number and the kind
abbrev pub slot_at : ℕ
slot_at = 5

abbrev pub kind : Note → ℕ
kind (Note.gone n) = 0
kind (Note.stands e) = 1

-- the slot as the table has it; of a name that is gone, the name with flags 0 and no field
abbrev pub slot : Note → List ℕ
slot (Note.gone n) = slot_bytes (bare n)
slot (Note.stands e) = slot_bytes e

-- the 480 bytes that are checked
unfoldable pub body : ℕ → Note → List ℕ
body i c = big_endian 4 i ++ (kind c ∷ slot c ++ replicate (body_size - (slot_at + slot_size)) 0)

-- block i that says c
unfoldable pub block_bytes : ℕ → Note → List ℕ
block_bytes i c = sealed (body i c)

-- ---- what a block may say

-- by itself: a proper canonical name is gone, or an entry stands that a sound table can have
abbrev pub Fit : Note → Type 0
Fit (Note.gone n) = HeldName n
Fit (Note.stands e) = WellFormed e

-- where the entries t stand: only a name that stands can be gone
abbrev pub Follows : Note → List TableEntry → Type 0
Follows (Note.gone n) t = (e : TableEntry) × (find n t ≡ some e)
Follows (Note.stands e) t = Unit {0}

-- the 512 bytes x are block i and say c where the entries t stand. A number has four bytes: none is 2^32 or more
pub record Says (i : ℕ) (t : List TableEntry) (x : List ℕ) (c : Note) : Type 0 where
  pub number : i < 2 ^ 32
  pub fit : Fit c
  pub bytes : x ≡ block_bytes i c
  pub follows : Follows c t
