-- What a whole book comes to: its fault, or the names that are kept. Assumes nothing.
use Prim.Native.Nat.{ℕ, ◌*◌, ◌-◌, ◌/◌, ◌%◌, ◌≤◌, ◌<◌}
use mathlib.Core.Path.{◌≡◌, sym, ap, subst, ◌∙◌}
use mathlib.Core.List.{List, []}
use native.Mathlib.Omega.{arith}
use lib.ListN.{length, take, length-append, length-take, length-drop}
use lib.Seq.{take_all}
use Rattle.slots.specs.Form.{TableEntry}
use Rattle.book.specs.Notes.{after}
use Rattle.book.specs.Books.{BadFrom, Right, Bad, Room, Replayable}
use Rattle.book.specs.Calls.{WholeBlocks, BookFault}
use Rattle.book.proofs.BlockLaws.{says_length}
use Rattle.book_replay.specs.Judging.{Kept, block_at, RightBlocks, JudgedAs, JudgesRest, WholeJudged, AllKept}
use Rattle.book_replay.specs.declared.judge.Judged.{Judged}
use Rattle.book_replay.proofs.SoughtLaws.{rest_bad}
use Rattle.book_replay.proofs.SoundLaws.{no_more}

-- a bad block has all its bytes
bad_long : {i : ℕ} {t : List TableEntry} {b : List ℕ} {n : ℕ} → BadFrom i t b n → 512 ≤ length b
bad_long (BadFrom.check x r e l h) = omega (arith, ap length e ∙ length-append x r, l)
bad_long (BadFrom.field x r e l g h) = omega (arith, ap length e ∙ length-append x r, l)
bad_long {i} {t} (BadFrom.later c x r e s h) = omega (arith, ap length e ∙ length-append x r, says_length i t x c s)

-- a block that has them is one of the whole ones
block_there : (book : List ℕ) (i : ℕ) → 512 ≤ length (block_at book i) → i < length book / 512
block_there book i long = omega (arith, simp (length-take, length-drop) at long)

-- the length is no multiple of a block's
pub whole_cut : (limit : ℕ) (book numbers : List ℕ) → (length book % 512 ≡ 0 → ⊥) → WholeJudged limit book numbers (record { used = 0; good = 0; fault = 44 })
whole_cut limit book numbers part = record { fault = λ _. BookFault.cut (λ w. part (omega (arith, w.1))); fine = λ e. absurd (omega (arith, e)) }

module _ (limit : ℕ) (book numbers : List ℕ) (r : Judged) (j : JudgedAs limit book numbers r) where
  pub right_so_far : RightBlocks book r.good
  unfolding RightBlocks
  right_so_far = (j.reached.notes, j.reached.right)

  -- the blocks that were judged are the whole book
  module _ (even : length book % 512 ≡ 0) where
    all : take (512 * (length book / 512)) book ≡ book
    all = take_all (512 * (length book / 512)) book (omega (arith, even))

    whole : WholeBlocks book
    whole = (length book / 512, omega (arith, even))

    bad_book : (n : ℕ) → Bad (take (512 * (length book / 512)) book) n → BookFault limit book n
    bad_book n h = BookFault.bad whole (subst (λ (b : List ℕ). Bad b n) all h)

    -- a bad block, or none
    pub whole_judged : (r.fault ≡ 40 → ⊥) → WholeJudged limit book numbers r
    whole_judged not_full =
        record {
          fault = λ some_fault. bad_book r.fault
              (rest_bad book r.good (block_there book r.good (let l = bad_long (j.bad some_fault not_full []) in omega (arith, l, length-append (block_at book r.good) [])))
              j.reached.notes j.reached.right r.fault (j.bad some_fault not_full));
          fine = λ none_bad. kept_all (j.whole none_bad);
        }
      where
        kept_all : r.good ≡ length book / 512 → (h : Replayable limit book) × (r.used ≤ limit) × (length numbers ≡ limit) × Kept book (length book / 512) numbers r.used (after h.notes)
        kept_all e = (
          record { notes = j.reached.notes; right = subst (λ (b : List ℕ). Right b j.reached.notes) (ap (λ (k : ℕ). take (512 * k) book) e ∙ all) j.reached.right; room = j.reached.room },
          j.reached.fits,
          j.reached.size,
          subst (λ (k : ℕ). Kept book k numbers r.used (after j.reached.notes)) e j.reached.kept,
        )

    module _ (full : r.fault ≡ 40) (later : ℕ) (rest : JudgesRest book later) where
      -- a bad block behind the one that brings a name too many
      pub whole_bad_later : (later ≡ 0 → ⊥) → WholeJudged limit book numbers (record { used = r.used; good = r.good; fault = later })
      whole_bad_later some_fault = record { fault = λ _. bad_book later (rest.bad some_fault); fine = λ e. absurd (some_fault e) }

      -- no bad block, and a name too many
      pub whole_full : later ≡ 0 → WholeJudged limit book numbers r
      unfolding RightBlocks
      whole_full none_bad =
          let right = rest.whole none_bad in
          let more = block_there book r.good (let l = says_length r.good (after j.reached.notes) (block_at book r.good) (j.full full).0 (j.full full).1 in omega (arith, l)) in
          let too_many : Room limit right.0 → ⊥ = λ room. no_more limit book numbers r j (length book / 512) (omega arith) more (record { notes = right.0; right = right.1; room = room }) in
          record {
            fault = λ _. subst (BookFault limit book) (sym full) (BookFault.full (subst (λ (b : List ℕ). Right b right.0) all right.1) too_many);
            fine = λ e. absurd (omega (arith, e, full));
          }

-- the names of a book without fault are kept
pub kept_names : (book numbers : List ℕ) (r : Judged) → WholeJudged 64 book numbers r → r.fault ≡ 0 → AllKept book numbers r.used
kept_names book numbers r w none_bad = let f = w.fine none_bad in record { fits = f.1; size = f.2; entries = after f.0.notes; kept = f.3 }
