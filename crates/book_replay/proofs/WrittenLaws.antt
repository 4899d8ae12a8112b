-- Pieces of one size, one for each name that is kept, written one behind the other. Assumes nothing.
use Prim.Native.Nat.{ℕ, suc, ◌+◌, ◌*◌, ◌-◌, ◌/◌, ◌≤◌, ◌<◌}
use mathlib.Core.Path.{◌≡◌, refl, sym, ap, ap₂, ◌∙◌}
use mathlib.Core.List.{List, [], ◌∷◌, ◌++◌, append-nil, append_assoc}
use native.Mathlib.Nat.{mul-suc, zero-add}
use native.Mathlib.Omega.{arith}
use lib.ListN.{length, take, drop, get_or, replicate, length-append, length-replicate}
use borrow.Rule.Slice.PartMut.{Post-is}
use lib.Seq.{take_all, take-add, length-take-le}
use Rattle.base.specs.Bytes.{overlay}
use Rattle.base.specs.Logic.{Every}
use Rattle.base.proofs.Bytes.{length_overlay, overlay_append, overlay_none, overlay_to_end, written_front}
use Rattle.base.proofs.Lists.{every_take, pairwise_second}
use Rattle.slots.specs.Form.{TableEntry, WellFormed, slot_bytes, IsSlot, used_slots, table_bytes}
use Rattle.slots.proofs.LaidLaws.{length_slot}
use Rattle.slots.proofs.TableLaws.{length_used, length_table}
use Rattle.book.specs.Notes.{Note, tidy_notes}
use Rattle.book.specs.Blocks.{block_bytes}
use Rattle.book.specs.Books.{blocks_from, tidied}
use Rattle.book.proofs.BlockLaws.{length_block}
use Rattle.book.proofs.TidyLaws.{length_tidied}
use Rattle.book_replay.specs.Judging.{Kept, AllKept}
use Rattle.book_replay.proofs.KeptLaws.{kept_length}
use Rattle.book_replay.proofs.HeadLaws.{kept_at, kept_within}

-- the pieces f i e for the entries e of t, numbered from i on
unfoldable pub pieces : (ℕ → TableEntry → List ℕ) → ℕ → List TableEntry → List ℕ
pieces f i [] = []
pieces f i (e ∷ t) = f i e ++ pieces f (suc i) t

-- to₀ with the pieces of the first j names that are kept at its beginning
pub record Written (f : ℕ → TableEntry → List ℕ) (book numbers : List ℕ) (used : ℕ) (to₀ to : List ℕ) (j : ℕ) : Type 0 where
  pub low : j ≤ used
  pub size : length to ≡ length to₀
  pub bytes : (t : List TableEntry) → Kept book (length book / 512) numbers used t → to ≡ overlay to₀ 0 (pieces f 0 (take j t))

-- ---- the names that are kept

-- a slot as the code cuts it
pub slot_cut : (at : ℕ) (b : List ℕ) → take (at + 312 - at) (drop at b) ≡ take 312 (drop at b)
slot_cut at b = let e : at + 312 - at ≡ 312 = omega arith in ap (λ (n : ℕ). take n (drop at b)) e

module _ (book numbers : List ℕ) (used : ℕ) (k : AllKept book numbers used) where
  few : used ≤ length numbers
  few = omega (arith, k.fits, k.size)

  -- the block of each is in the book
  pub piece_within : (j : ℕ) → j < used → 512 * get_or numbers j 0 + 512 ≤ length book
  piece_within j more = kept_within book (length book / 512) numbers used k.entries few k.kept j more (omega arith)

  -- and has the slot of an entry
  pub slot_kept : (j : ℕ) → j < used → IsSlot (take (512 * get_or numbers j 0 + 5 + 312 - (512 * get_or numbers j 0 + 5)) (drop (512 * get_or numbers j 0 + 5) book))
  unfolding IsSlot
  slot_kept j more =
      let a = kept_at book (length book / 512) numbers used k.entries few k.kept j more in (a.entry, a.stood.fit, slot_cut (512 * get_or numbers j 0 + 5) book ∙ a.stood.slot)

  module _ (t : List TableEntry) (h : Kept book (length book / 512) numbers used t) where
    fit : Every WellFormed t
    unfolding Kept
    fit = pairwise_second (λ p e s. s.fit) h

    count : used ≡ length t
    count = kept_length book (length book / 512) numbers used t few h

-- ---- the loop

module _ (f : ℕ → TableEntry → List ℕ) where
  -- one piece more
  pieces_on : (i : ℕ) (t : List TableEntry) (e : TableEntry) → pieces f i (t ++ e ∷ []) ≡ pieces f i t ++ f (i + length t) e
  unfolding pieces
  pieces_on i [] e = append-nil (f i e) ∙ (let same : i ≡ i + 0 = omega arith in ap (λ (k : ℕ). f k e) same)
  pieces_on i (d ∷ t) e =
      ap (λ (b : List ℕ). f i d ++ b) (pieces_on (suc i) t e)
      ∙ sym (append_assoc (f i d) (pieces f (suc i) t) (f (suc i + length t) e))
      ∙ (let same : suc i + length t ≡ i + suc (length t) = omega arith in ap (λ (k : ℕ). (f i d ++ pieces f (suc i) t) ++ f k e) same)

  module _ (size : ℕ) (sized : (i : ℕ) (e : TableEntry) → WellFormed e → length (f i e) ≡ size) where
    length_pieces : (i : ℕ) (t : List TableEntry) → Every WellFormed t → length (pieces f i t) ≡ size * length t
    unfolding pieces
    length_pieces i [] Every.none = omega arith
    length_pieces i (e ∷ t) (Every.more w ws) =
        length-append (f i e) (pieces f (suc i) t) ∙ omega (arith, sized i e w, length_pieces (suc i) t ws, mul-suc size (length t))

    module _ (book numbers : List ℕ) (used : ℕ) (k : AllKept book numbers used) where
      -- nothing is written yet
      pub written_none : (to : List ℕ) → Written f book numbers used to to 0
      unfolding pieces
      written_none to = record { low = omega arith; size = refl; bytes = λ t h. sym (overlay_none to 0) }

      -- a piece for the next name
      pub written_more : (to₀ to : List ℕ) (j : ℕ) → Written f book numbers used to₀ to j → j < used → size * j + size ≤ length to₀ → (to' : List ℕ)
          → ((e : TableEntry) → WellFormed e → take 312 (drop (512 * get_or numbers j 0 + 5) book) ≡ slot_bytes e → to' ≡ overlay to (size * j) (f j e)) → Written f book numbers used to₀ to' (j + 1)
      written_more to₀ to j w more room to' next = record { low = omega (arith, more); size = same_size; bytes = longer }
        where
          same_size : length to' ≡ length to₀
          same_size =
              let a = kept_at book (length book / 512) numbers used k.entries (few book numbers used k) k.kept j more in
              let s = a.stood in
              ap length (next a.entry s.fit s.slot) ∙ length_overlay to (size * j) (f j a.entry) (omega (arith, sized j a.entry s.fit, w.size, room)) ∙ w.size

          longer : (t : List TableEntry) → Kept book (length book / 512) numbers used t → to' ≡ overlay to₀ 0 (pieces f 0 (take (j + 1) t))
          longer t h =
              let a = kept_at book (length book / 512) numbers used t (few book numbers used k) h j more in
              let s = a.stood in
              let e = a.entry in
              let p = pieces f 0 (take j t) in
              let long : length (take j t) ≡ j = length-take-le j t (omega (arith, count book numbers used k t h, more)) in
              let at : size * j ≡ 0 + length p = (let l : length p ≡ size * length (take j t) = length_pieces 0 (take j t) (every_take j t (fit book numbers used k t h)) in sym (zero-add (length p) ∙ l ∙ ap (λ (n : ℕ). size * n) long)) in
              let taken : take (j + 1) t ≡ take j t ++ e ∷ [] = take-add j 1 t ∙ ap (λ (u : List TableEntry). take j t ++ take 1 u) a.cut in
              let index : 0 + length (take j t) ≡ j = omega (arith, long) in
              next e s.fit s.slot
              ∙ ap₂ (λ (b : List ℕ) (n : ℕ). overlay b n (f j e)) (w.bytes t h) at
              ∙ overlay_append to₀ 0 p (f j e) (omega arith)
              ∙ ap (overlay to₀ 0) (sym (ap (pieces f 0) taken ∙ pieces_on 0 (take j t) e ∙ ap (λ (n : ℕ). p ++ f n e) index))

      -- all are written
      pub written_all : (to₀ to : List ℕ) (j : ℕ) → Written f book numbers used to₀ to j → used ≤ j → (t : List TableEntry) → Kept book (length book / 512) numbers used t → to ≡ overlay to₀ 0 (pieces f 0 t)
      written_all to₀ to j w last t h = w.bytes t h ∙ ap (λ (u : List TableEntry). overlay to₀ 0 (pieces f 0 u)) (take_all j t (omega (arith, count book numbers used k t h, last)))

-- ---- slots in a table

abbrev pub slot_of : ℕ → TableEntry → List ℕ
slot_of i e = slot_bytes e

pub length_slot_of : (i : ℕ) (e : TableEntry) → WellFormed e → length (slot_of i e) ≡ 312
length_slot_of i e w = length_slot e w

slots_pieces : (i : ℕ) (t : List TableEntry) → pieces slot_of i t ≡ used_slots t
unfolding pieces used_slots
slots_pieces i [] = refl
slots_pieces i (e ∷ t) = ap (λ (b : List ℕ). slot_bytes e ++ b) (slots_pieces (suc i) t)

module _ (book numbers : List ℕ) (used : ℕ) (k : AllKept book numbers used) (t : List TableEntry) (h : Kept book (length book / 512) numbers used t) where
  -- zeros behind the last slot make it a table
  pub filled : (to₀ to left : List ℕ) (j : ℕ) → Written slot_of book numbers used to₀ to j → used ≤ j → length to₀ ≡ 19968 → left ≡ overlay to (312 * used) (replicate (19968 - 312 * used) 0) → left ≡ table_bytes 64 t
  unfolding table_bytes
  filled to₀ to left j w last long e =
      let many = count book numbers used k t h in
      let size : length (used_slots t) ≡ 312 * used = length_used t (fit book numbers used k t h) ∙ ap (λ (n : ℕ). 312 * n) (sym many) in
      let zeros : 19968 - 312 * used ≡ 312 * (64 - length t) = omega (arith, many) in
      let at : 312 * used ≡ 0 + length (used_slots t) = omega (arith, size) in
      let all : to ≡ overlay to₀ 0 (used_slots t) = written_all slot_of 312 length_slot_of book numbers used k to₀ to j w last t h ∙ ap (overlay to₀ 0) (slots_pieces 0 t) in
      let rest = replicate {A = ℕ} (312 * (64 - length t)) 0 in
      let full : 0 + length (used_slots t ++ rest) ≡ length to₀ = (let l : length rest ≡ 312 * (64 - length t) = length-replicate {A = ℕ} (312 * (64 - length t)) 0 in omega (arith, length-append (used_slots t) rest, l, size, many, long, k.fits)) in
      e ∙ ap₂ (λ (b : List ℕ) (n : ℕ). overlay b n (replicate (19968 - 312 * used) 0)) all at ∙ ap (λ (n : ℕ). overlay (overlay to₀ 0 (used_slots t)) (0 + length (used_slots t)) (replicate n 0)) zeros
      ∙ overlay_append to₀ 0 (used_slots t) rest (omega arith) ∙ overlay_to_end to₀ 0 (used_slots t ++ rest) full

  -- a table in place of the bytes that were lent, and what stands behind them stays
  pub in_area : (area s : List ℕ) → s ≡ table_bytes 64 t → s ++ drop 19968 area ≡ overlay area 0 (table_bytes 64 t)
  in_area area s e =
      let few_names : length t ≤ 64 = omega (arith, count book numbers used k t h, k.fits) in
      written_front 19968 area s (table_bytes 64 t) (length_table 64 t (table_bytes 64 t) (record { each = fit book numbers used k t h; room = few_names; form = refl })) e

-- ---- blocks in a tidied book

abbrev pub block_of : ℕ → TableEntry → List ℕ
block_of i e = block_bytes i (Note.stands e)

pub length_block_of : (i : ℕ) (e : TableEntry) → WellFormed e → length (block_of i e) ≡ 512
length_block_of i e w = length_block i (Note.stands e) w

-- a block in place of the bytes that were lent
pub block_put : (j : ℕ) (e : TableEntry) → WellFormed e → (out y : List ℕ) → y ≡ block_of j e → take (512 * j) out ++ (y ++ drop (512 * j + 512 - 512 * j) (drop (512 * j) out)) ≡ overlay out (512 * j) (block_of j e)
unfolding overlay
block_put j e w out y same =
    let size : 512 * j + 512 ≡ 512 * j + length y = omega (arith, ap length same ∙ length_block_of j e w) in
    sym (append_assoc (take (512 * j) out) y (drop (512 * j + 512 - 512 * j) (drop (512 * j) out)))
    ∙ ap (λ (z : List ℕ). take (512 * j) out ++ y ++ z) (Post-is (512 * j) (512 * j + 512) out (omega arith) ∙ ap (λ (n : ℕ). drop n out) size)
    ∙ ap (overlay out (512 * j)) same

blocks_pieces : (i : ℕ) (t : List TableEntry) → pieces block_of i t ≡ blocks_from i (tidy_notes t)
unfolding pieces blocks_from tidy_notes
blocks_pieces i [] = refl
blocks_pieces i (e ∷ t) = ap (λ (b : List ℕ). block_bytes i (Note.stands e) ++ b) (blocks_pieces (suc i) t)

module _ (book numbers : List ℕ) (used : ℕ) (k : AllKept book numbers used) (t : List TableEntry) (h : Kept book (length book / 512) numbers used t) where
  -- the last block makes it the tidied book
  pub tidied_all : (to₀ to : List ℕ) (j : ℕ) → Written block_of book numbers used to₀ to j → used ≤ j → to ≡ overlay to₀ 0 (tidied t)
  unfolding tidied
  tidied_all to₀ to j w last = written_all block_of 512 length_block_of book numbers used k to₀ to j w last t h ∙ ap (overlay to₀ 0) (blocks_pieces 0 t)

  -- a block for each name
  pub tidied_long : length (tidied t) ≡ 512 * used
  tidied_long = length_tidied t (fit book numbers used k t h) ∙ ap (λ (n : ℕ). 512 * n) (sym (count book numbers used k t h))
