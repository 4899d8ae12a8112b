-- The calls on a book (specs/Calls.antt): one answer and one content of the area each, what a refusal leaves, and what an accepted call has found and written. Assumes nothing.
use Prim.Native.Nat.{ℕ, ◌*◌, ◌≤◌, ◌<◌}
use mathlib.Core.Path.{◌≡◌, refl, sym, ap, ap₂, subst, ◌∙◌}
use mathlib.Core.Logic.{◌⊎◌, inl, inr}
use mathlib.Core.List.{List}
use native.Mathlib.Omega.{arith}
use lib.ListN.{length, take}
use Rattle.base.specs.Answer.{number, value}
use Rattle.base.specs.Bytes.{overlay}
use Rattle.base.specs.Order.{FirstFault}
use Rattle.base.specs.declared.Answer.{Answer}
use Rattle.base.specs.declared.Answer.TheVariants.{Accepted, Refused}
use Rattle.base.proofs.AnswerLaws.{accepted≢refused}
use Rattle.base.proofs.Bytes.{taken_back}
use Rattle.base.proofs.Theorems.{one_fault, no_fault}
use Rattle.block.specs.Sealed.{block_size}
use Rattle.name.specs.Name.{Proper, canonical}
use Rattle.slots.specs.Form.{TableEntry, table_bytes, IsTable, Sound}
use Rattle.slots.specs.Sizes.{slot_size}
use Rattle.slots.proofs.TableLaws.{length_table}
use Rattle.slots.proofs.Theorems.{one_sound_table}
use Rattle.book.specs.Notes.{Note, after, note_of}
use Rattle.book.specs.Blocks.{block_bytes}
use Rattle.book.specs.Books.{BadFrom, Right, Room, Replayable, tidied}
use Rattle.book.specs.Calls.{block_tests, BlockWritten, WholeBlocks, BookFault, Replays, Tidies}
use Rattle.book.proofs.BookLaws.{right_length, one_right, right_not_bad, one_bad}
use Rattle.book.proofs.SoundLaws.{table_after_lem}

-- ---- no refusal has the number 0

pub bad_number : {i : ℕ} {t : List TableEntry} {b : List ℕ} {n : ℕ} → BadFrom i t b n → (n ≡ 42) ⊎ (n ≡ 43)
bad_number (BadFrom.check x r e l h) = inl refl
bad_number (BadFrom.field x r e l g h) = inr refl
bad_number (BadFrom.later c x r e s h) = bad_number h

fault_number : {limit : ℕ} {b : List ℕ} {n : ℕ} → BookFault limit b n → 0 < n
fault_number (BookFault.cut h) = omega arith
fault_number (BookFault.bad {n} w h) = go (bad_number h)
  where
    go : (n ≡ 42) ⊎ (n ≡ 43) → 0 < n
    go (inl e) = omega (arith, e)
    go (inr e) = omega (arith, e)
fault_number (BookFault.full r h) = omega arith

tests_number : (limit : ℕ) (b name out : List ℕ) {n : ℕ} → FirstFault (block_tests limit b name out) n → 0 < n
tests_number limit b name out (inl f) = omega (arith, f.1)
tests_number limit b name out (inr (h, inl f)) = omega (arith, f.1)
tests_number limit b name out (inr (h, inr (k, inl f))) = omega (arith, f.1)
tests_number limit b name out (inr (h, inr (k, inr (j, f)))) = absurd f

-- ---- a name's block

module _ (limit : ℕ) (b name : List ℕ) (i : ℕ) (out : List ℕ) where
  pub one_written : {r q : Answer} {left also : List ℕ} → BlockWritten limit b name i out r left → BlockWritten limit b name i out q also → (r ≡ q) × (left ≡ also)
  one_written (BlockWritten.faulty {n = n} f a e) (BlockWritten.faulty {n = m} g d u) = (
    a ∙ ap (λ (k : ℕ). Refused k 0) (one_fault (block_tests limit b name out) n m f g) ∙ sym d,
    e ∙ sym u,
  )
  one_written (BlockWritten.faulty {n = n} f a e) (BlockWritten.written h s d u) = absurd (no_fault (block_tests limit b name out) n h f)
  one_written (BlockWritten.written h s a e) (BlockWritten.faulty {n = m} g d u) = absurd (no_fault (block_tests limit b name out) m h g)
  one_written (BlockWritten.written h s a e) (BlockWritten.written k v d u) = (
    a ∙ sym d,
    e ∙ ap (λ (t : List TableEntry). overlay out 0 (block_bytes i (note_of (canonical name) t))) (one_sound_table limit b s v) ∙ sym u,
  )

  pub unwritten : {r : Answer} {left : List ℕ} → BlockWritten limit b name i out r left → (n at : ℕ) → r ≡ Refused n at → left ≡ out
  unwritten (BlockWritten.faulty f a e) n at h = e
  unwritten (BlockWritten.written k s a e) n at h = absurd (accepted≢refused (sym a ∙ h))

  -- an accepted one has written the block of a proper name of a sound table
  pub record Wrote (r : Answer) (left : List ℕ) : Type 0 where
    pub proper : Proper name
    pub sound : Sound limit b
    pub answered : r ≡ Accepted block_size
    pub bytes : left ≡ overlay out 0 (block_bytes i (note_of (canonical name) sound.table))

  pub wrote : {r : Answer} {left : List ℕ} → BlockWritten limit b name i out r left → number r ≡ 0 → Wrote r left
  wrote (BlockWritten.faulty f a e) z = absurd (omega (arith, ap number a, tests_number limit b name out f))
  wrote (BlockWritten.written h s a e) z = record { proper = h.1.0; sound = s; answered = a; bytes = e }

-- ---- a whole book

module _ (limit : ℕ) (b : List ℕ) where
  whole : {cs : List Note} → Right b cs → WholeBlocks b
  whole {cs} h = (length cs, right_length h)

  one_book_fault : {n m : ℕ} → BookFault limit b n → BookFault limit b m → n ≡ m
  one_book_fault (BookFault.cut h) (BookFault.cut k) = refl
  one_book_fault (BookFault.cut h) (BookFault.bad w k) = absurd (h w)
  one_book_fault (BookFault.cut h) (BookFault.full r k) = absurd (h (whole r))
  one_book_fault (BookFault.bad w h) (BookFault.cut k) = absurd (k w)
  one_book_fault (BookFault.bad w h) (BookFault.bad v k) = one_bad h k
  one_book_fault (BookFault.bad w h) (BookFault.full r k) = absurd (right_not_bad r h)
  one_book_fault (BookFault.full r h) (BookFault.cut k) = absurd (k (whole r))
  one_book_fault (BookFault.full r h) (BookFault.bad v k) = absurd (right_not_bad r k)
  one_book_fault (BookFault.full r h) (BookFault.full q k) = refl

  pub no_book_fault : {n : ℕ} → Replayable limit b → BookFault limit b n → ⊥
  no_book_fault h (BookFault.cut k) = k (whole h.right)
  no_book_fault h (BookFault.bad w k) = right_not_bad h.right k
  no_book_fault h (BookFault.full r k) = k (subst (Room limit) (one_right h.right r) h.room)

  pub same_table : (h k : Replayable limit b) → after h.notes ≡ after k.notes
  same_table h k = ap after (one_right h.right k.right)

  -- ---- replayed

  module _ (area : List ℕ) where
    pub one_replayed : {r q : Answer} {left also : List ℕ} → Replays limit b area r left → Replays limit b area q also → (r ≡ q) × (left ≡ also)
    one_replayed (Replays.faulty f a e) (Replays.faulty g d u) = (a ∙ ap (λ (k : ℕ). Refused k 0) (one_book_fault f g) ∙ sym d, e ∙ sym u)
    one_replayed (Replays.faulty f a e) (Replays.short k s d u) = absurd (no_book_fault k f)
    one_replayed (Replays.faulty f a e) (Replays.replayed k s d u) = absurd (no_book_fault k f)
    one_replayed (Replays.short h l a e) (Replays.faulty g d u) = absurd (no_book_fault h g)
    one_replayed (Replays.short h l a e) (Replays.short k s d u) = (a ∙ sym d, e ∙ sym u)
    one_replayed (Replays.short h l a e) (Replays.replayed k s d u) = absurd (omega (arith, l, s))
    one_replayed (Replays.replayed h l a e) (Replays.faulty g d u) = absurd (no_book_fault h g)
    one_replayed (Replays.replayed h l a e) (Replays.short k s d u) = absurd (omega (arith, l, s))
    one_replayed (Replays.replayed h l a e) (Replays.replayed k s d u) =
        (a ∙ sym d, e ∙ ap (λ (t : List TableEntry). overlay area 0 (table_bytes limit t)) (same_table h k) ∙ sym u)

    pub unreplayed : {r : Answer} {left : List ℕ} → Replays limit b area r left → (n at : ℕ) → r ≡ Refused n at → left ≡ area
    unreplayed (Replays.faulty f a e) n at h = e
    unreplayed (Replays.short k l a e) n at h = e
    unreplayed (Replays.replayed k l a e) n at h = absurd (accepted≢refused (sym a ∙ h))

    -- an accepted replay has left the table of the book's notes
    pub record Replayed (r : Answer) (left : List ℕ) : Type 0 where
      pub book : Replayable limit b
      pub fits : slot_size * limit ≤ length area
      pub answered : r ≡ Accepted 0
      pub bytes : left ≡ overlay area 0 (table_bytes limit (after book.notes))
      pub table : IsTable limit (after book.notes) (take (slot_size * limit) left)

    pub replayed : {r : Answer} {left : List ℕ} → Replays limit b area r left → number r ≡ 0 → Replayed r left
    replayed (Replays.faulty f a e) z = absurd (omega (arith, ap number a, fault_number f))
    replayed (Replays.short h l a e) z = absurd (omega (arith, ap number a))
    replayed (Replays.replayed h l a e) z =
        let new = table_after_lem limit b h in
        let is = ap₂ take (sym (length_table limit (after h.notes) _ new)) e ∙ taken_back area (table_bytes limit (after h.notes)) in
        record { book = h; fits = l; answered = a; bytes = e; table = subst (IsTable limit (after h.notes)) (sym is) new }

  -- ---- tidied

  module _ (out : List ℕ) where
    pub one_tidied : {r q : Answer} {left also : List ℕ} → Tidies limit b out r left → Tidies limit b out q also → (r ≡ q) × (left ≡ also)
    one_tidied (Tidies.faulty f a e) (Tidies.faulty g d u) = (a ∙ ap (λ (k : ℕ). Refused k 0) (one_book_fault f g) ∙ sym d, e ∙ sym u)
    one_tidied (Tidies.faulty f a e) (Tidies.short k s d u) = absurd (no_book_fault k f)
    one_tidied (Tidies.faulty f a e) (Tidies.written k s d u) = absurd (no_book_fault k f)
    one_tidied (Tidies.short h l a e) (Tidies.faulty g d u) = absurd (no_book_fault h g)
    one_tidied (Tidies.short h l a e) (Tidies.short k s d u) = (a ∙ sym d, e ∙ sym u)
    one_tidied (Tidies.short h l a e) (Tidies.written k s d u) = absurd (omega (arith, l, s, ap (λ (t : List TableEntry). length (tidied t)) (same_table h k)))
    one_tidied (Tidies.written h l a e) (Tidies.faulty g d u) = absurd (no_book_fault h g)
    one_tidied (Tidies.written h l a e) (Tidies.short k s d u) = absurd (omega (arith, l, s, ap (λ (t : List TableEntry). length (tidied t)) (same_table h k)))
    one_tidied (Tidies.written h l a e) (Tidies.written k s d u) = (
      a ∙ ap (λ (t : List TableEntry). Accepted (length (tidied t))) (same_table h k) ∙ sym d,
      e ∙ ap (λ (t : List TableEntry). overlay out 0 (tidied t)) (same_table h k) ∙ sym u,
    )

    pub untidied : {r : Answer} {left : List ℕ} → Tidies limit b out r left → (n at : ℕ) → r ≡ Refused n at → left ≡ out
    untidied (Tidies.faulty f a e) n at h = e
    untidied (Tidies.short k l a e) n at h = e
    untidied (Tidies.written k l a e) n at h = absurd (accepted≢refused (sym a ∙ h))

    -- an accepted one has left the tidied book, of the length that it answers
    pub record Tidied (r : Answer) (left : List ℕ) : Type 0 where
      pub book : Replayable limit b
      pub answered : r ≡ Accepted (length (tidied (after book.notes)))
      pub bytes : take (value r) left ≡ tidied (after book.notes)

    pub was_tidied : {r : Answer} {left : List ℕ} → Tidies limit b out r left → number r ≡ 0 → Tidied r left
    was_tidied (Tidies.faulty f a e) z = absurd (omega (arith, ap number a, fault_number f))
    was_tidied (Tidies.short h l a e) z = absurd (omega (arith, ap number a))
    was_tidied (Tidies.written h l a e) z = record { book = h; answered = a; bytes = ap₂ take (ap value a) e ∙ taken_back out (tidied (after h.notes)) }
