-- The public theorems of `book` (document 02, K5): a book's bytes determine what it says; the calls' promises determine what is answered and left; a tidied book is the same book, and
-- the shortest; the block of each accepted step replays that step; and what a power cut in the middle of a write costs. Each is proved by citation. Assumes nothing.
use Prim.Native.Nat.{ℕ, suc, ◌*◌, ◌^◌, ◌≤◌, ◌<◌}
use mathlib.Core.Path.{◌≡◌}
use mathlib.Core.Logic.{◌⊎◌}
use mathlib.Core.List.{List, [], ◌∷◌, ◌++◌}
use mathlib.Core.Option.{none}
use native.Mathlib.Omega.{arith}
use lib.ListN.{length, take}
use Rattle.base.specs.Answer.{number, value}
use Rattle.base.specs.Bytes.{overlay}
use Rattle.base.specs.declared.Answer.{Answer}
use Rattle.base.specs.declared.Answer.TheVariants.{Accepted, Refused}
use Rattle.block.specs.Sealed.{block_size}
use Rattle.slots.specs.Entry.{names, Distinct}
use Rattle.slots.specs.Form.{Sound}
use Rattle.slots.specs.Sizes.{slot_size}
use Rattle.table.specs.Steps.{find}
use Rattle.table.specs.Calls.{Adds, Removes, Clears}
use Rattle.book.specs.Notes.{Note, after}
use Rattle.book.specs.LastNote.{last_said}
use Rattle.book.specs.Blocks.{Says}
use Rattle.book.specs.Books.{Right, Bad, Replayable, SoundBlocks, tidied}
use Rattle.book.specs.Calls.{BlockWritten, Replays, Tidies, BlocksWritten}
use Rattle.book.proofs.BookLaws.{one_right, right_not_bad, right_or_bad_from, one_bad}
use Rattle.book.proofs.NoteLaws.{found_after}
use Rattle.book.proofs.SoundLaws.{sound_after}
use Rattle.book.proofs.TornLaws.{cut_block}
use Rattle.book.proofs.StoredLaws.{right_on, stored_part}
use Rattle.book.proofs.CallLaws.{one_written, unwritten, one_replayed, unreplayed, replayed, one_tidied, untidied}
use Rattle.book.proofs.StepLaws.{behind_add, behind_remove, behind_clear}
use Rattle.book.proofs.FreshLaws.{blocks_of_table}
use Rattle.book.proofs.TidiedLaws.{same_after_tidy, none_shorter, table_again}

-- ---- a book's bytes

-- they determine its notes
pub one_book : (b : List ℕ) (cs ds : List Note) → Right b cs → Right b ds → cs ≡ ds
one_book b cs ds h k = one_right h k

-- bytes whose length is a multiple of 512 are right or bad, and never both
pub right_or_bad : (k : ℕ) (b : List ℕ) → length b ≡ block_size * k → (((cs : List Note) × Right b cs) ⊎ ((n : ℕ) × Bad b n)) × ((cs : List Note) (n : ℕ) → Right b cs → Bad b n → ⊥)
right_or_bad k b long = (right_or_bad_from k 0 [] b long, λ cs n h bad. right_not_bad h bad)

-- with one number
pub one_number : (b : List ℕ) (n m : ℕ) → Bad b n → Bad b m → n ≡ m
one_number b n m h k = one_bad h k

-- a name stands exactly if the last note about it says so, and as that note says
pub stands_as_last_said : (n : List ℕ) (cs : List Note) → find n (after cs) ≡ last_said n none cs
unfolding find
stands_as_last_said n cs = found_after n cs [] Distinct.none

-- a book with one block more that says c
pub replays_on : (b : List ℕ) (cs : List Note) (x : List ℕ) (c : Note) → Right b cs → Says (length cs) (after cs) x c → Right (b ++ x) (cs ++ c ∷ [])
replays_on b cs x c h s = right_on b cs x c h s

-- ---- a name's block

module _ (limit : ℕ) (b name : List ℕ) (i : ℕ) (out : List ℕ) where
  -- the promise determines the answer and what the area holds
  pub one_block : (r q : Answer) (left also : List ℕ) → BlockWritten limit b name i out r left → BlockWritten limit b name i out q also → (r ≡ q) × (left ≡ also)
  one_block r q left also h k = one_written limit b name i out h k

  -- a refused one leaves every byte of the area as it was
  pub refused_block : (r : Answer) (left : List ℕ) → BlockWritten limit b name i out r left → (n at : ℕ) → r ≡ Refused n at → left ≡ out
  refused_block r left h = unwritten limit b name i out h

-- ---- replaying

module _ (limit : ℕ) (b area : List ℕ) where
  pub one_replay : (r q : Answer) (left also : List ℕ) → Replays limit b area r left → Replays limit b area q also → (r ≡ q) × (left ≡ also)
  one_replay r q left also h k = one_replayed limit b area h k

  pub refused_replay : (r : Answer) (left : List ℕ) → Replays limit b area r left → (n at : ℕ) → r ≡ Refused n at → left ≡ area
  refused_replay r left h = unreplayed limit b area h

  -- what a replay leaves is a sound table
  pub sound_replay : (r : Answer) (left : List ℕ) → Replays limit b area r left → number r ≡ 0 → Sound limit (take (slot_size * limit) left)
  sound_replay r left h done =
      let k = replayed limit b area h done in
      record { table = after k.book.notes; slots = k.table; distinct = (sound_after limit b k.book).distinct }

-- ---- tidying

module _ (limit : ℕ) (b out : List ℕ) where
  pub one_tidy : (r q : Answer) (left also : List ℕ) → Tidies limit b out r left → Tidies limit b out q also → (r ≡ q) × (left ≡ also)
  one_tidy r q left also h k = one_tidied limit b out h k

  pub refused_tidy : (r : Answer) (left : List ℕ) → Tidies limit b out r left → (n at : ℕ) → r ≡ Refused n at → left ≡ out
  refused_tidy r left h = untidied limit b out h

  module _ (r : Answer) (left : List ℕ) (h : Tidies limit b out r left) (done : number r ≡ 0) where
    -- what tidying leaves, replayed, is the table of the old book, byte for byte: whatever a replay of the old book answers and leaves, of whatever area, one of the new book does
    pub tidied_same : (area : List ℕ) (q : Answer) (now : List ℕ) → Replays limit b area q now → Replays limit (take (value r) left) area q now
    tidied_same area q now k = same_after_tidy limit b out r left h done area q now k

    -- every book that replays to that table has at least as many bytes
    pub no_shorter : (area : List ℕ) (q : Answer) (now : List ℕ) → Replays limit b area q now → number q ≡ 0
        → (other area' : List ℕ) (q' : Answer) (now' : List ℕ) → Replays limit other area' q' now' → number q' ≡ 0
        → take (slot_size * limit) now' ≡ take (slot_size * limit) now → value r ≤ length other
    no_shorter area q now k fine other area' q' now' k' fine' same = none_shorter limit b out r left h done area q now k fine other area' q' now' k' fine' same

-- ---- a block after each accepted step

-- a book of k blocks replays to b; the step on b is accepted and leaves b'; the name's block is written from b' under the number k: then the old book followed by that block replays
-- to b'
module _ (limit : ℕ) (book area : List ℕ) (q : Answer) (b : List ℕ) (k : ℕ) (blocks : length book ≡ block_size * k) (below : k < 2 ^ 32) (old : Replays limit book area q b) (done : number q ≡ 0)
    (name b' out : List ℕ) (w : Answer) (left : List ℕ) (written : BlockWritten limit b' name k out w left) (stored : number w ≡ 0) (r : Answer) (v : ℕ) (accepted : r ≡ Accepted v) where
  pub replays_add : (dhcid : List ℕ) (family : ℕ) (address : List ℕ) (policy : ℕ) → Adds limit b name dhcid family address policy r b'
      → Replays limit (book ++ take (value w) left) area (Accepted 0) b'
  replays_add dhcid family address policy step = behind_add limit book area q b k blocks below old done name b' out w left written stored r v accepted dhcid family address policy step

  pub replays_remove : (dhcid : List ℕ) (family : ℕ) (address : List ℕ) → Removes limit b name dhcid family address r b' → Replays limit (book ++ take (value w) left) area (Accepted 0) b'
  replays_remove dhcid family address step = behind_remove limit book area q b k blocks below old done name b' out w left written stored r v accepted dhcid family address step

  pub replays_clear : Clears limit b name r b' → Replays limit (book ++ take (value w) left) area (Accepted 0) b'
  replays_clear step = behind_clear limit book area q b k blocks below old done name b' out w left written stored r v accepted step

-- ---- a book that is begun from a table

module _ (limit : ℕ) (b : List ℕ) (s : Sound limit b) where
  -- the blocks that are written for the table's names in turn, under 0, 1 and so on, are its tidied book
  pub from_table : (x : List ℕ) → BlocksWritten limit b 0 (names s.table) x → x ≡ tidied s.table
  from_table x h = blocks_of_table limit b s x h

  -- which replays to that table, if it has no more names than there are numbers
  pub fresh_book : length s.table ≤ 2 ^ 32 → (area : List ℕ) → slot_size * limit ≤ length area → Replays limit (tidied s.table) area (Accepted 0) (overlay area 0 b)
  fresh_book few area fits = table_again limit b s few area fits

-- ---- a write that the power cut

-- one number of sound blocks
pub one_sound : (limit : ℕ) (b : List ℕ) (n m : ℕ) → SoundBlocks limit b n → SoundBlocks limit b m → n ≡ m
one_sound limit b n m s r = omega (arith, r.most n s.fits s.below s.replays, s.most m r.fits r.below r.replays)

module _ (limit : ℕ) (b : List ℕ) (n : ℕ) (h : Replayable limit b) (blocks : length b ≡ block_size * n) where
  -- behind a book of n blocks stand any bytes w, at most a block: the sound blocks of the two together are the book's, or w is a whole block and right behind the book
  pub torn : (w : List ℕ) (m : ℕ) → n < 2 ^ 32 → length w ≤ block_size → SoundBlocks limit (b ++ w) m
      → (m ≡ n) ⊎ ((m ≡ suc n) × (length w ≡ block_size) × ((c : Note) × Says n (after h.notes) w c))
  torn w m below short s = cut_block limit b n h blocks w m below short s

  -- behind it stands a beginning of the block that was being written, less than all of it: the sound blocks are the book's. So a cut write costs that block and no earlier one
  pub torn_block : (x : List ℕ) (c : Note) → Says n (after h.notes) x c → (k : ℕ) → k < block_size → (m : ℕ) → SoundBlocks limit (b ++ take k x) m → m ≡ n
  torn_block x c s k part m sound = one_sound limit (b ++ take k x) m n sound (stored_part limit b h n blocks c x s k part)
