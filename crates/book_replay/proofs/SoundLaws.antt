-- The number of good blocks that the loop counts is that of the sound ones. Assumes nothing.
use Prim.Native.Nat.{ℕ, zero, suc, ◌+◌, ◌*◌, ◌-◌, ◌^◌, ◌≤◌, ◌<◌}
use mathlib.Core.Path.{◌≡◌, refl, sym, ap, ap₂, subst, ◌∙◌}
use mathlib.Core.List.{List, [], ◌∷◌, ◌++◌, append_assoc}
use native.Mathlib.Omega.{arith}
use lib.Dec.{eqb}
use lib.ListN.{length, take, drop}
use lib.Seq.{take-add, take-nil, take-take, take-append-add}
use mathlib.Core.Bool.{Bool, true, false}
use borrow.Author.Tests.{eqb-true, eqb-false}
use Rattle.base.proofs.Lists.{append_split}
use Rattle.base.proofs.Tests.{by_ltb}
use Rattle.slots.specs.Form.{TableEntry}
use Rattle.book.specs.Notes.{Note, noted, after_from, after}
use Rattle.book.specs.Blocks.{Says}
use Rattle.book.specs.Books.{RightFrom, BadFrom, Right, RoomFrom, Room, Replayable, SoundBlocks}
use Rattle.book.proofs.BlockLaws.{says_length, says_one}
use Rattle.book.proofs.BookLaws.{right_not_bad, no_block}
use Rattle.book.proofs.PrefixLaws.{right_front, room_front, replays_take}
use Rattle.book.proofs.Theorems.{replays_on}
use Rattle.book_replay.specs.Judging.{block_at, JudgedAs}
use Rattle.book_replay.specs.declared.judge.Judged.{Judged}
use Rattle.book_replay.proofs.SoughtLaws.{bad_behind, notes_count}

module _ (limit : ℕ) (book numbers : List ℕ) (r : Judged) (j : JudgedAs limit book numbers r) where
  low : 512 * r.good ≤ length book
  low = let w = j.within in omega (arith, w)

  -- a longer part of the book, cut behind the good blocks and the next one
  module _ (m : ℕ) (fits : 512 * m ≤ length book) (more : r.good < m) (h : Replayable limit (take (512 * m) book)) where
    rest : List ℕ
    rest = take (512 * m - 512 * r.good - 512) (drop 512 (drop (512 * r.good) book))

    cut : take (512 * m) book ≡ take (512 * r.good) book ++ (block_at book r.good ++ rest)
    unfolding rest
    cut =
        let k = 512 * m - 512 * r.good - 512 in
        let size : 512 * m ≡ 512 * r.good + (512 + k) = omega (arith, more) in
        ap (λ (n : ℕ). take n book) size ∙ take-add (512 * r.good) (512 + k) book ∙ ap (λ (z : List ℕ). take (512 * r.good) book ++ z) (take-add 512 k (drop (512 * r.good) book))

    number : length j.reached.notes ≡ r.good
    number = notes_count book r.good low j.reached.notes j.reached.right

    not_bad : (r.fault ≡ 0 → ⊥) → (r.fault ≡ 40 → ⊥) → ⊥
    not_bad a b =
        let e : r.good ≡ 0 + length j.reached.notes = omega (arith, number) in
        right_not_bad (subst (λ (z : List ℕ). Right z h.notes) cut h.right)
        (bad_behind (block_at book r.good ++ rest) r.fault j.reached.right
        (subst (λ (n : ℕ). BadFrom n (after j.reached.notes) (block_at book r.good ++ rest) r.fault) e (j.bad a b rest)))

    not_full : r.fault ≡ 40 → ⊥
    not_full f =
        let c = (j.full f).0 in
        let s = (j.full f).1 in
        let right = replays_on (take (512 * r.good) book) j.reached.notes (block_at book r.good) c j.reached.right
        (subst (λ (n : ℕ). Says n (after j.reached.notes) (block_at book r.good) c) (sym number) s) in
        let front = right_front rest right (subst (λ (z : List ℕ). Right z h.notes) (cut ∙ sym (append_assoc (take (512 * r.good) book) (block_at book r.good) rest)) h.right) in
        let few = room_front limit (j.reached.notes ++ c ∷ []) front.0 [] (subst (Room limit) front.1 h.room) in
        let many = (j.full f).2 in
        omega (arith, few, many)

    not_whole : r.fault ≡ 0 → ⊥
    not_whole f = let w = j.whole f in omega (arith, w, fits, more)

    pub no_more : ⊥
    no_more = by_fault (eqb r.fault 0) refl (eqb r.fault 40) refl
      where
        by_fault : (a : Bool) → eqb r.fault 0 ≡ a → (b : Bool) → eqb r.fault 40 ≡ b → ⊥
        by_fault true e b f = not_whole (eqb-true r.fault 0 e)
        by_fault false e true f = not_full (eqb-true r.fault 40 f)
        by_fault false e false f = not_bad (λ z. eqb-false r.fault 0 e z) (λ z. eqb-false r.fault 40 f z)

  pub judged_sound : r.good < 2 ^ 32 → SoundBlocks limit book r.good
  judged_sound below =
      record {
        fits = low;
        below = below;
        replays = record { notes = j.reached.notes; right = j.reached.right; room = j.reached.room };
        most = λ m fits small h. by_ltb r.good m (λ more. absurd (no_more m fits more h)) (λ least. least);
      }

  -- where the count is cut at a number below 2^32, so that it can be answered
  pub judged_sound_cut : (n : ℕ) → n ≤ r.good → n < 2 ^ 32 → ((m : ℕ) → m ≤ r.good → m < 2 ^ 32 → m ≤ n) → SoundBlocks limit book n
  judged_sound_cut n within below most =
      let all : Replayable limit (take (512 * r.good) book) = record { notes = j.reached.notes; right = j.reached.right; room = j.reached.room } in
      record {
        fits = omega (arith, low, within);
        below = below;
        replays = subst (Replayable limit) (take-take (512 * n) (512 * r.good) book (omega (arith, within))) (replays_take limit (take (512 * r.good) book) n all);
        most = λ m fits small h. by_ltb r.good m (λ more. absurd (no_more m fits more h)) (λ least. most m least small);
      }
