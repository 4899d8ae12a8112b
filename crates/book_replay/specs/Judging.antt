-- What the functions that judge a book promise one another.
use Rattle.std.specs.Prelude.{ℕ, suc, ◌+◌, ◌*◌, ◌/◌, ◌≤◌, ◌<◌, ◌≡◌, List, [], ◌∷◌, ◌++◌, length, take, drop}
use Rattle.base.specs.Bytes.{padded}
use Rattle.base.specs.Logic.{Pairwise}
use Rattle.base.specs.Refusal.{table_not_sound}
use Rattle.block.specs.Sealed.{block_size}
use Rattle.slots.specs.Entry.{position}
use Rattle.slots.specs.Form.{TableEntry, WellFormed, slot_bytes}
use Rattle.slots.specs.Sizes.{slot_size, most_names}
use Rattle.book.specs.Notes.{Note, after}
use Rattle.book.specs.LastNote.{about}
use Rattle.book.specs.Blocks.{slot_at, kind, Says}
use Rattle.book.specs.Books.{BadFrom, Right, Bad, Room, Replayable}
use Rattle.book.specs.Calls.{BookFault}
use Rattle.book_replay.specs.declared.judge.Turn.{Turn}
use Rattle.book_replay.specs.declared.judge.Judged.{Judged}

-- block p, one of the first i, says that e stands
pub record Stood (book : List ℕ) (i p : ℕ) (e : TableEntry) : Type 0 where
  pub earlier : p < i
  pub slot : take slot_size (drop (block_size * p + slot_at) book) ≡ slot_bytes e
  pub fit : WellFormed e

-- the entries t stand, each as the block says whose number is kept for it
unfoldable pub Kept : List ℕ → ℕ → List ℕ → ℕ → List TableEntry → Type 0
Kept book i numbers used t = Pairwise (Stood book i) (take used numbers) t

-- block i of the book
abbrev pub block_at : List ℕ → ℕ → List ℕ
block_at book i = take block_size (drop (block_size * i) book)

-- what a look at block i finds, where the entries t stand: the note, with its kind and where its name stands or would; or the fault
pub record LookIs (i : ℕ) (x : List ℕ) (t : List TableEntry) (r : Turn) : Type 0 where
  pub right : r.fault ≡ 0 → (c : Note) × Says i t x c × (r.kind ≡ kind c) × (r.index ≡ position (about c) t)
  pub wrong : (r.fault ≡ 0 → ⊥) → (rest : List ℕ) → BadFrom i t (x ++ rest) r.fault

-- the first i blocks are right and leave room for all names, and those that stand are kept
pub record Reached (limit : ℕ) (book : List ℕ) (i : ℕ) (numbers : List ℕ) (used : ℕ) : Type 0 where
  pub notes : List Note
  pub right : Right (take (block_size * i) book) notes
  pub room : Room limit notes
  pub size : length numbers ≡ limit
  pub fits : used ≤ limit
  pub kept : Kept book i numbers used (after notes)

-- what the loop came to: all whole blocks are right (0); the next one is bad (42, 43), or brings a name too many (40)
pub record JudgedAs (limit : ℕ) (book numbers : List ℕ) (r : Judged) : Type 0 where
  pub reached : Reached limit book r.good numbers r.used
  pub within : r.good ≤ length book / block_size
  pub whole : r.fault ≡ 0 → r.good ≡ length book / block_size
  pub full : r.fault ≡ table_not_sound → (c : Note) × Says r.good (after reached.notes) (block_at book r.good) c × (suc limit ≤ length (after (reached.notes ++ c ∷ [])))
  pub bad : (r.fault ≡ 0 → ⊥) → (r.fault ≡ table_not_sound → ⊥) → (rest : List ℕ) → BadFrom r.good (after reached.notes) (block_at book r.good ++ rest) r.fault

-- the first 256 bytes of a slot: a name's length and the name
unfoldable pub head_of : List ℕ → List ℕ
head_of n = length n ∷ padded n

-- ---- beyond the names that there is room for

-- the first i blocks are right
unfoldable pub RightBlocks : List ℕ → ℕ → Type 0
RightBlocks book i = (cs : List Note) × Right (take (block_size * i) book) cs

-- what block i has wrong, where the entries t stand
pub record FaultIs (i : ℕ) (x : List ℕ) (t : List TableEntry) (r : ℕ) : Type 0 where
  pub right : r ≡ 0 → (c : Note) × Says i t x c
  pub wrong : (r ≡ 0 → ⊥) → (rest : List ℕ) → BadFrom i t (x ++ rest) r

-- all whole blocks are right, or they are bad
pub record JudgesRest (book : List ℕ) (r : ℕ) : Type 0 where
  pub whole : r ≡ 0 → RightBlocks book (length book / block_size)
  pub bad : (r ≡ 0 → ⊥) → Bad (take (block_size * (length book / block_size)) book) r

-- ---- a whole book

-- what all of a book comes to: its fault; or, where it has none, the names that stand are kept
pub record WholeJudged (limit : ℕ) (book numbers : List ℕ) (r : Judged) : Type 0 where
  pub fault : (r.fault ≡ 0 → ⊥) → BookFault limit book r.fault
  pub fine : r.fault ≡ 0 → (h : Replayable limit book) × (r.used ≤ limit) × (length numbers ≡ limit) × Kept book (length book / block_size) numbers r.used (after h.notes)

-- names are kept, each by the number of a whole block
pub record AllKept (book numbers : List ℕ) (used : ℕ) : Type 0 where
  pub fits : used ≤ most_names
  pub size : length numbers ≡ most_names
  pub entries : List TableEntry
  pub kept : Kept book (length book / block_size) numbers used entries
