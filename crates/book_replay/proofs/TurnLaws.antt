-- One turn of the loop that judges a book. Assumes nothing.
use Prim.Native.Nat.{ℕ, ◌+◌, ◌*◌, ◌-◌, ◌/◌, ◌^◌, ◌≤◌, ◌<◌}
use mathlib.Core.Path.{◌≡◌, refl, sym, ap, subst, ◌∙◌}
use mathlib.Core.List.{List, [], ◌∷◌, ◌++◌}
use mathlib.Core.Logic.{◌⊎◌, inl, inr, ⊎_elim}
use mathlib.Core.Option.{none}
use native.Mathlib.Nat.{suc-ne-zero}
use native.Mathlib.Omega.{arith}
use lib.ListN.{length, take, drop, set, length-append, length-set}
use lib.Seq.{take-add, length-take-le}
use Rattle.base.specs.Logic.{Pairwise}
use Rattle.slots.specs.Entry.{position}
use Rattle.slots.specs.Form.{TableEntry}
use Rattle.book.specs.Notes.{Note, noted, after_from, after}
use Rattle.book.specs.LastNote.{about}
use Rattle.book.specs.Blocks.{kind, Says}
use Rattle.book.specs.Books.{RightFrom, BadFrom, Right, RoomFrom}
use Rattle.book.proofs.NoteLaws.{after_snoc, noted_new}
use Rattle.book.proofs.BookLaws.{right_length}
use Rattle.book.proofs.CallLaws.{bad_number}
use Rattle.book.proofs.StoredLaws.{room_more}
use Rattle.book.proofs.Theorems.{replays_on}
use Rattle.book_replay.specs.Judging.{Kept, block_at, LookIs, Reached, JudgedAs}
use Rattle.book_replay.specs.declared.judge.Turn.{Turn}
use Rattle.book_replay.proofs.KeptLaws.{kept_length, stood_here, kept_gone, kept_changed, kept_last, not_found, found_there}

-- ---- a whole block

pub block_within : (n i : ℕ) → i < n / 512 → 512 * i + 512 ≤ n
block_within n i l = omega (arith, l)

pub next_within : (n i : ℕ) → i < n / 512 → i + 1 ≤ n / 512
next_within n i l = omega (arith, l)

-- ---- the invariant

pub reached_none : (book numbers : List ℕ) → length numbers ≡ 64 → Reached 64 book 0 numbers 0
unfolding RoomFrom Kept after_from
reached_none book numbers size = record { notes = []; right = RightFrom.over refl; room = omega arith; size = size; fits = omega arith; kept = Pairwise.none }

module _ (book : List ℕ) (i : ℕ) (numbers : List ℕ) (used : ℕ) (h : Reached 64 book i numbers used) (more : 512 * i + 512 ≤ length book) where
  -- as many notes as blocks
  notes_number : length h.notes ≡ i
  notes_number = let l : length (take (512 * i) book) ≡ 512 * i = length-take-le (512 * i) book (omega (arith, more)) in omega (arith, right_length h.right, l)

  pub used_low : used ≤ length numbers
  used_low = omega (arith, h.size, h.fits)

  -- one block more
  pub reached_next : (c : Note) → Says i (after h.notes) (block_at book i) c → (numbers' : List ℕ) (used' : ℕ) → length numbers' ≡ 64 → used' ≤ 64
      → Kept book (i + 1) numbers' used' (noted c (after h.notes)) → Reached 64 book (i + 1) numbers' used'
  reached_next c s numbers' used' size fits kept =
      let next : after (h.notes ++ c ∷ []) ≡ noted c (after h.notes) = after_snoc h.notes c [] in
      let bytes : take (512 * (i + 1)) book ≡ take (512 * i) book ++ block_at book i = (let e : 512 * (i + 1) ≡ 512 * i + 512 = omega arith in ap (λ (j : ℕ). take j book) e ∙ take-add (512 * i) 512 book) in
      let many : used' ≡ length (noted c (after h.notes)) = kept_length book (i + 1) numbers' used' (noted c (after h.notes)) (omega (arith, size, fits)) kept in
      record {
        notes = h.notes ++ c ∷ [];
        right =
            subst (λ (b : List ℕ). Right b (h.notes ++ c ∷ [])) (sym bytes)
            (replays_on (take (512 * i) book) h.notes (block_at book i) c h.right (subst (λ (j : ℕ). Says j (after h.notes) (block_at book i) c) (sym notes_number) s));
        room = room_more 64 h.notes c [] h.room (omega (arith, ap length next, many, fits));
        size = size;
        fits = fits;
        kept = subst (Kept book (i + 1) numbers' used') (sym next) kept;
      }

  -- ---- by what the look found

  module _ (r : Turn) (look : LookIs i (block_at book i) (after h.notes) r) (fine : r.fault ≡ 0) where
    pub number_small : i < 2 ^ 32
    number_small = (look.right fine).1.number

    -- kind 0: its name stands
    pub gone_there : r.kind ≡ 0 → r.index < used
    gone_there zero_kind = go (look.right fine).0 (look.right fine).1 (look.right fine).2 (look.right fine).3
      where
        go : (c : Note) → Says i (after h.notes) (block_at book i) c → r.kind ≡ kind c → r.index ≡ position (about c) (after h.notes) → r.index < used
        go (Note.gone n) s k index = found_there book i numbers used (after h.notes) h.kept used_low n r.index s.follows.0 index s.follows.1
        go (Note.stands e) s k index = absurd (suc-ne-zero 0 (sym k ∙ zero_kind))

    pub turn_gone : r.kind ≡ 0 → (left : List ℕ) → length left ≡ 64 → take (used - 1) left ≡ take r.index numbers ++ drop (r.index + 1) (take used numbers) → Reached 64 book (i + 1) left (used - 1)
    turn_gone zero_kind left size same = go (look.right fine).0 (look.right fine).1 (look.right fine).2 (look.right fine).3
      where
        go : (c : Note) → Says i (after h.notes) (block_at book i) c → r.kind ≡ kind c → r.index ≡ position (about c) (after h.notes) → Reached 64 book (i + 1) left (used - 1)
        go (Note.gone n) s k index =
            reached_next (Note.gone n) s left (used - 1) size (omega (arith, h.fits))
            (kept_gone book i numbers used (after h.notes) h.kept used_low n r.index left index (gone_there zero_kind) same)
        go (Note.stands e) s k index = absurd (suc-ne-zero 0 (sym k ∙ zero_kind))

    -- kind 1 of a name that stands
    pub turn_changed : (r.kind ≡ 0 → ⊥) → r.index < used → Reached 64 book (i + 1) (set numbers r.index i) used
    turn_changed some_kind there = go (look.right fine).0 (look.right fine).1 (look.right fine).2 (look.right fine).3
      where
        go : (c : Note) → Says i (after h.notes) (block_at book i) c → r.kind ≡ kind c → r.index ≡ position (about c) (after h.notes) → Reached 64 book (i + 1) (set numbers r.index i) used
        go (Note.gone n) s k index = absurd (some_kind k)
        go (Note.stands e) s k index =
            reached_next (Note.stands e) s (set numbers r.index i) used (length-set numbers r.index i ∙ h.size) h.fits
            (kept_changed book i numbers used (after h.notes) h.kept used_low e r.index index there (stood_here book i (after h.notes) e s))

    -- of a new name, where there is room
    pub turn_new : (r.kind ≡ 0 → ⊥) → used ≤ r.index → used < 64 → Reached 64 book (i + 1) (set numbers used i) (used + 1)
    turn_new some_kind least room = go (look.right fine).0 (look.right fine).1 (look.right fine).2 (look.right fine).3
      where
        go : (c : Note) → Says i (after h.notes) (block_at book i) c → r.kind ≡ kind c → r.index ≡ position (about c) (after h.notes) → Reached 64 book (i + 1) (set numbers used i) (used + 1)
        go (Note.gone n) s k index = absurd (some_kind k)
        go (Note.stands e) s k index =
            reached_next (Note.stands e) s (set numbers used i) (used + 1) (length-set numbers used i ∙ h.size) (omega (arith, room))
            (kept_last book i numbers used (after h.notes) h.kept used_low e (not_found book i numbers used (after h.notes) h.kept used_low e.name r.index index least)
            (omega (arith, h.size, room)) (stood_here book i (after h.notes) e s))

    -- and where there is none
    pub turn_full : (r.kind ≡ 0 → ⊥) → used ≤ r.index → 64 ≤ used → (c : Note) × Says i (after h.notes) (block_at book i) c × (65 ≤ length (after (h.notes ++ c ∷ [])))
    turn_full some_kind least none_left = go (look.right fine).0 (look.right fine).1 (look.right fine).2 (look.right fine).3
      where
        go : (c : Note) → Says i (after h.notes) (block_at book i) c → r.kind ≡ kind c → r.index ≡ position (about c) (after h.notes)
            → (c : Note) × Says i (after h.notes) (block_at book i) c × (65 ≤ length (after (h.notes ++ c ∷ [])))
        go (Note.gone n) s k index = absurd (some_kind k)
        go (Note.stands e) s k index =
            let absent = not_found book i numbers used (after h.notes) h.kept used_low e.name r.index index least in
            let many = kept_length book i numbers used (after h.notes) used_low h.kept in
            let size : length (after (h.notes ++ Note.stands e ∷ [])) ≡ length (after h.notes) + 1 =
            ap length (after_snoc h.notes (Note.stands e) [] ∙ noted_new e (after h.notes) absent) ∙ length-append (after h.notes) (e ∷ []) in
            (Note.stands e, s, omega (arith, size, many, none_left))

-- ---- what is answered

module _ (book : List ℕ) (i : ℕ) (numbers : List ℕ) (used : ℕ) (h : Reached 64 book i numbers used) where
  pub judged_whole : i ≤ length book / 512 → length book / 512 ≤ i → JudgedAs 64 book numbers (record { used = used; good = i; fault = 0 })
  judged_whole within last =
      record { reached = h; within = within; whole = λ _. omega (arith, within, last); full = λ f. absurd (omega (arith, f)); bad = λ f g rest. absurd (f refl) }

  pub judged_bad : i ≤ length book / 512 → (n : ℕ) → (n ≡ 0 → ⊥) → ((rest : List ℕ) → BadFrom i (after h.notes) (block_at book i ++ rest) n)
      → JudgedAs 64 book numbers (record { used = used; good = i; fault = n })
  judged_bad within n some_fault wrong =
      record {
        reached = h;
        within = within;
        whole = λ f. absurd (some_fault f);
        full = λ f. absurd (⊎_elim (λ a. omega (arith, f, a)) (λ a. omega (arith, f, a)) (bad_number (wrong [])));
        bad = λ f g rest. wrong rest;
      }

  pub judged_full : i ≤ length book / 512 → ((c : Note) × Says i (after h.notes) (block_at book i) c × (65 ≤ length (after (h.notes ++ c ∷ []))))
      → JudgedAs 64 book numbers (record { used = used; good = i; fault = 40 })
  judged_full within full = record { reached = h; within = within; whole = λ f. absurd (omega (arith, f)); full = λ f. full; bad = λ f g rest. absurd (g refl) }
