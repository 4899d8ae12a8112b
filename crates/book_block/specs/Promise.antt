-- What the functions on one block promise one another, beyond the definitions of `book`.
use Rattle.std.specs.Prelude.{ℕ, ◌+◌, ◌-◌, ◌^◌, ◌<◌, ◌≡◌, List, ◌∷◌, ◌++◌, replicate}
use Rattle.base.specs.Bytes.{big_endian}
use Rattle.base.specs.Refusal.{wrong_check, wrong_field}
use Rattle.block.specs.Sealed.{body_size, sealed, IsSealed}
use Rattle.slots.specs.Fields.{bare}
use Rattle.slots.specs.Form.{slot_bytes}
use Rattle.slots.specs.Sizes.{slot_size}
use Rattle.slots.specs.SlotTests.{HeldName}
use Rattle.book.specs.Notes.{Note}
use Rattle.book.specs.Blocks.{slot_at, block_bytes, Fit}

-- the slot of a proper canonical name with nothing under it
unfoldable pub IsBare : List ℕ → Type 0
IsBare s = (n : List ℕ) × HeldName n × (s ≡ slot_bytes (bare n))

-- the bytes x are block i and say c, as far as they themselves tell: what stood before is not asked
pub record SaysAlone (i : ℕ) (x : List ℕ) (c : Note) : Type 0 where
  pub number : i < 2 ^ 32
  pub fit : Fit c
  pub bytes : x ≡ block_bytes i c

-- the fault of the bytes x as block i: none, 42, or 43
pub data BlockIs (i : ℕ) (x : List ℕ) : ℕ → Type 0 where
  fine : (c : Note) → SaysAlone i x c → BlockIs i x 0
  check : (IsSealed x → ⊥) → BlockIs i x wrong_check
  field : IsSealed x → ((c : Note) → SaysAlone i x c → ⊥) → BlockIs i x wrong_field

-- ---- writing

-- the bytes s as the slot of a block with that number and that kind
unfoldable pub framed : ℕ → ℕ → List ℕ → List ℕ
framed i k s = sealed (big_endian 4 i ++ (k ∷ s ++ replicate (body_size - (slot_at + slot_size)) 0))
