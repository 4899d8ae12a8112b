-- A block more behind a book, stored in part or whole: what the sound part then replays to. Assumes nothing.
use Prim.Native.Nat.{ℕ, suc, ◌+◌, ◌*◌, ◌^◌, ◌≤◌, ◌<◌}
use mathlib.Core.Path.{◌≡◌, sym, ap, subst, ◌∙◌}
use mathlib.Core.List.{List, [], ◌∷◌, ◌++◌}
use native.Mathlib.Omega.{arith}
use lib.ListN.{length, take, length-append, length-take}
use lib.Seq.{take_all}
use Rattle.block.specs.Sealed.{block_size}
use Rattle.slots.specs.Form.{TableEntry}
use Rattle.book.specs.Notes.{Note, noted, after_from, after}
use Rattle.book.specs.Blocks.{Says}
use Rattle.book.specs.Books.{Right, RoomFrom, Replayable, SoundBlocks}
use Rattle.book.proofs.BlockLaws.{says_length}
use Rattle.book.proofs.BookLaws.{right_more}
use Rattle.book.proofs.NoteLaws.{after_snoc}
use Rattle.book.proofs.TornLaws.{blocks_count, cut_short}

-- a book with one block more that says c
pub right_on : (b : List ℕ) (cs : List Note) (x : List ℕ) (c : Note) → Right b cs → Says (length cs) (after cs) x c → Right (b ++ x) (cs ++ c ∷ [])
right_on b cs x c h s = right_more x c h (let same : length cs ≡ 0 + length cs = omega arith in subst (λ (j : ℕ). Says j (after cs) x c) same s)

-- there is room, where there is room after the last note
pub room_more : (limit : ℕ) (cs : List Note) (c : Note) (t : List TableEntry) → RoomFrom limit t cs → length (after_from (cs ++ c ∷ []) t) ≤ limit → RoomFrom limit t (cs ++ c ∷ [])
unfolding RoomFrom after_from
room_more limit [] c t h last = (h, last)
room_more limit (d ∷ cs) c t h last = (h.0, room_more limit cs c (noted d t) h.1 last)

module _ (limit : ℕ) (b : List ℕ) (h : Replayable limit b) (n : ℕ) (long : length b ≡ block_size * n) (c : Note) (x : List ℕ) (s : Says n (after h.notes) x c) where
  module _ (few : length (noted c (after h.notes)) ≤ limit) where
    -- the book with the whole block
    pub stored_book : Replayable limit (b ++ x)
    stored_book =
        record {
          notes = h.notes ++ c ∷ [];
          right = right_on b h.notes x c h.right (subst (λ (j : ℕ). Says j (after h.notes) x c) (sym (blocks_count limit b n h long)) s);
          room = room_more limit h.notes c [] h.room (omega (arith, ap length (after_snoc h.notes c []), few));
        }

    -- it replays to what the note makes of the table
    pub stored_table : after stored_book.notes ≡ noted c (after h.notes)
    unfolding stored_book
    stored_table = after_snoc h.notes c []

    -- all its blocks are sound
    pub stored_whole : suc n < 2 ^ 32 → SoundBlocks limit (b ++ x) (suc n)
    stored_whole below =
        let size : length (b ++ x) ≡ block_size * n + block_size = length-append b x ∙ (let l = says_length n (after h.notes) x c s in omega (arith, long, l)) in
        let all : take (block_size * suc n) (b ++ x) ≡ b ++ x = take_all (block_size * suc n) (b ++ x) (omega (arith, size)) in
        record { fits = omega (arith, size); below = below; replays = subst (Replayable limit) (sym all) stored_book; most = λ m fits small again. omega (arith, size, fits) }

  -- and of a beginning of it, less than all, those of the old book alone
  pub stored_part : (k : ℕ) → k < block_size → SoundBlocks limit (b ++ take k x) n
  stored_part k part =
      let short : length (take k x) ≤ k = simp length-take (omega arith) in
      cut_short limit b n h long (take k x) s.number (omega (arith, short, part))
