-- Which bytes are a book of names, which block of others is the first bad one, and which books a table has room for. Document 02, K5 (docs/RULES.md,
-- 11.2 and 11.3): blocks numbered from 0, 42 for a wrong check, then 43 for a wrong number or field, both for the first bad block; more names than
-- there is room for, after some block; and the book that tidying writes. The number of names is a parameter.
use Rattle.std.specs.Prelude.{ℕ, suc, ◌*◌, ◌^◌, ◌≤◌, ◌<◌, ◌≡◌, List, [], ◌∷◌, ◌++◌, length, take}
use Rattle.base.specs.Refusal.{wrong_check, wrong_field}
use Rattle.block.specs.Sealed.{block_size, IsSealed}
use Rattle.slots.specs.Form.{TableEntry}
use Rattle.book.specs.Notes.{Note, noted, tidy_notes}
use Rattle.book.specs.Blocks.{block_bytes, Says}

-- ---- right or bad

-- from block i on, where the entries t stand, the bytes b are blocks that say cs, and nothing is left
pub data RightFrom : ℕ → List TableEntry → List ℕ → List Note → Type 0 where
  over : {i : ℕ} {t : List TableEntry} {b : List ℕ} → b ≡ [] → RightFrom i t b []
  more : {i : ℕ} {t : List TableEntry} {b : List ℕ} {c : Note} {cs : List Note} (x r : List ℕ) → b ≡ x ++ r → Says i t x c → RightFrom (suc i) (noted c t) r cs
      → RightFrom i t b (c ∷ cs)

-- right blocks, and then the first bad one, with its number: its check is wrong, or its check is right and it says nothing that a block may say there
pub data BadFrom : ℕ → List TableEntry → List ℕ → ℕ → Type 0 where
  check : {i : ℕ} {t : List TableEntry} {b : List ℕ} (x r : List ℕ) → b ≡ x ++ r → length x ≡ block_size → (IsSealed x → ⊥) → BadFrom i t b wrong_check
  field : {i : ℕ} {t : List TableEntry} {b : List ℕ} (x r : List ℕ) → b ≡ x ++ r → length x ≡ block_size → IsSealed x → ((c : Note) → Says i t x c → ⊥) → BadFrom i t b wrong_field
  later : {i : ℕ} {t : List TableEntry} {b : List ℕ} {n : ℕ} (c : Note) (x r : List ℕ) → b ≡ x ++ r → Says i t x c → BadFrom (suc i) (noted c t) r n → BadFrom i t b n

-- the bytes b are a book that says cs
abbrev pub Right : List ℕ → List Note → Type 0
Right b cs = RightFrom 0 [] b cs

-- they are not, and n is the number of the first bad block's fault
abbrev pub Bad : List ℕ → ℕ → Type 0
Bad b n = BadFrom 0 [] b n

-- ---- room

-- at most so many names stand, now and after each block
unfoldable pub RoomFrom : ℕ → List TableEntry → List Note → Type 0
RoomFrom limit t [] = length t ≤ limit
RoomFrom limit t (c ∷ cs) = (length t ≤ limit) × RoomFrom limit (noted c t) cs

-- of a book, which begins with no name
abbrev pub Room : ℕ → List Note → Type 0
Room limit cs = RoomFrom limit [] cs

-- a book that a table has room for: replay accepts it, given an area that is long enough
pub record Replayable (limit : ℕ) (b : List ℕ) : Type 0 where
  pub notes : List Note
  pub right : Right b notes
  pub room : Room limit notes

-- ---- the sound blocks of a book that may be damaged

-- the first n blocks of b are such a book, and no more are, of the numbers below 2^32. What stands behind the last whole block is not looked at
pub record SoundBlocks (limit : ℕ) (b : List ℕ) (n : ℕ) : Type 0 where
  pub fits : block_size * n ≤ length b
  pub below : n < 2 ^ 32
  pub replays : Replayable limit (take (block_size * n) b)
  pub most : (m : ℕ) → block_size * m ≤ length b → m < 2 ^ 32 → Replayable limit (take (block_size * m) b) → m ≤ n

-- ---- tidying

-- the blocks that say cs, from number i on
unfoldable pub blocks_from : ℕ → List Note → List ℕ
blocks_from i [] = []
blocks_from i (c ∷ cs) = block_bytes i c ++ blocks_from (suc i) cs

-- the tidied book of the entries t: a block for each, in order, numbered from 0
unfoldable pub tidied : List TableEntry → List ℕ
tidied t = blocks_from 0 (tidy_notes t)
