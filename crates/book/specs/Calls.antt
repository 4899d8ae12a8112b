-- The calls on a book of names: what is answered, and what is left in the bytes that were lent. Document 02, K5 (docs/RULES.md, 11.3 and 11.4): a name's
-- block 40, 9, 13; replay and tidying 44, then 42 or 43 for the first bad block, then 40, then 13. A refused call leaves the bytes as they were. How
-- many names a table has room for is a parameter.
use Rattle.std.specs.Prelude.{ℕ, suc, ◌*◌, ◌≤◌, ◌<◌, ◌≡◌, List, [], ◌∷◌, ◌++◌, length, take}
use Rattle.base.specs.Bytes.{overlay}
use Rattle.base.specs.Order.{Test, AllHold, FirstFault}
use Rattle.base.specs.Refusal.{output_short, table_not_sound, block_length}
use Rattle.base.specs.declared.Answer.{Answer}
use Rattle.base.specs.declared.Answer.TheVariants.{Accepted, Refused}
use Rattle.block.specs.Sealed.{block_size}
use Rattle.name.specs.Name.{canonical}
use Rattle.slots.specs.Form.{table_bytes, Sound}
use Rattle.slots.specs.Sizes.{slot_size}
use Rattle.table.specs.Calls.{name_tests}
use Rattle.book.specs.Notes.{Note, after, note_of}
use Rattle.book.specs.Blocks.{block_bytes}
use Rattle.book.specs.Books.{Right, Bad, Room, Replayable, SoundBlocks, tidied}

-- ---- a name's block

-- what is tested: 40, 9, and the room for a block, 13
abbrev pub block_tests : ℕ → List ℕ → List ℕ → List ℕ → List Test
block_tests limit b name out = name_tests limit b name ++ record { number = output_short; holds = block_size ≤ length out } ∷ []

-- the block of a name was written under the number i, as the table with the bytes b has it, into an area that held `out` and now holds `left`; r was answered
pub data BlockWritten (limit : ℕ) (b name : List ℕ) (i : ℕ) (out : List ℕ) (r : Answer) (left : List ℕ) : Type 0 where
  faulty : {n : ℕ} → FirstFault (block_tests limit b name out) n → r ≡ Refused n 0 → left ≡ out → BlockWritten limit b name i out r left
  written : AllHold (block_tests limit b name out) → (s : Sound limit b) → r ≡ Accepted block_size → left ≡ overlay out 0 (block_bytes i (note_of (canonical name) s.table))
      → BlockWritten limit b name i out r left

-- ---- a whole book

-- the bytes b are whole blocks, whatever these say
abbrev pub WholeBlocks : List ℕ → Type 0
WholeBlocks b = (k : ℕ) × (length b ≡ block_size * k)

-- a book is refused with the number n, whatever it is to be used for: 44; 42 or 43, over all of it; 40
pub data BookFault (limit : ℕ) (b : List ℕ) : ℕ → Type 0 where
  cut : (WholeBlocks b → ⊥) → BookFault limit b block_length
  bad : {n : ℕ} → WholeBlocks b → Bad b n → BookFault limit b n
  full : {cs : List Note} → Right b cs → (Room limit cs → ⊥) → BookFault limit b table_not_sound

-- the book b was replayed into an area that held `area` and now holds `left`; r was answered. Nothing is asked of the bytes that the area held
pub data Replays (limit : ℕ) (b area : List ℕ) (r : Answer) (left : List ℕ) : Type 0 where
  faulty : {n : ℕ} → BookFault limit b n → r ≡ Refused n 0 → left ≡ area → Replays limit b area r left
  short : Replayable limit b → length area < slot_size * limit → r ≡ Refused output_short 0 → left ≡ area → Replays limit b area r left
  replayed : (h : Replayable limit b) → slot_size * limit ≤ length area → r ≡ Accepted 0 → left ≡ overlay area 0 (table_bytes limit (after h.notes))
      → Replays limit b area r left

-- the book b was tidied into an area that held `out` and now holds `left`; r was answered
pub data Tidies (limit : ℕ) (b out : List ℕ) (r : Answer) (left : List ℕ) : Type 0 where
  faulty : {n : ℕ} → BookFault limit b n → r ≡ Refused n 0 → left ≡ out → Tidies limit b out r left
  short : (h : Replayable limit b) → length out < length (tidied (after h.notes)) → r ≡ Refused output_short 0 → left ≡ out → Tidies limit b out r left
  written : (h : Replayable limit b) → length (tidied (after h.notes)) ≤ length out → r ≡ Accepted (length (tidied (after h.notes)))
      → left ≡ overlay out 0 (tidied (after h.notes)) → Tidies limit b out r left

-- how many blocks of b are sound was answered. There is no refusal
pub record CountsSound (limit : ℕ) (b : List ℕ) (r : Answer) : Type 0 where
  pub blocks : ℕ
  pub sound : SoundBlocks limit b blocks
  pub answer : r ≡ Accepted blocks

-- ---- a table's names in turn

-- the bytes x are the blocks that were written for the names ns, one after the other, as the table with the bytes b has them, from number i on
pub data BlocksWritten (limit : ℕ) (b : List ℕ) : ℕ → List (List ℕ) → List ℕ → Type 0 where
  none : {i : ℕ} {x : List ℕ} → x ≡ [] → BlocksWritten limit b i [] x
  more : {i : ℕ} {n : List ℕ} {ns : List (List ℕ)} {x : List ℕ} (out left rest : List ℕ) (v : ℕ) → BlockWritten limit b n i out (Accepted v) left
      → BlocksWritten limit b (suc i) ns rest → x ≡ take v left ++ rest → BlocksWritten limit b i (n ∷ ns) x
