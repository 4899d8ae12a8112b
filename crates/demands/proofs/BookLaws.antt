-- Demand 1, of the calls on the book of names. Assumes nothing.
use Prim.Native.Nat.{ℕ, ◌≤◌}
use mathlib.Core.Path.{◌≡◌, refl, subst}
use mathlib.Core.Logic.{◌⊎◌, inl, inr}
use mathlib.Core.List.{List, [], ◌∷◌}
use native.Mathlib.Omega.{arith}
use lib.ListN.{length}
use Rattle.base.specs.Order.{Test, AllHold, FirstFault}
use Rattle.base.specs.Refusal.{table_not_sound, wrong_check, wrong_field}
use Rattle.base.specs.declared.Answer.{Answer}
use Rattle.base.proofs.OrderLaws.{fault_before_lem}
use Rattle.slots.specs.Sizes.{most_names}
use Rattle.book.specs.Notes.{Note, after}
use Rattle.book.specs.Books.{Right, Bad, Room, Replayable, tidied}
use Rattle.book.specs.Calls.{BlockWritten, BookFault, Replays, Tidies, CountsSound}
use Rattle.book.proofs.BookLaws.{right_length, one_right, right_not_bad}
use Rattle.book.proofs.CallLaws.{bad_number}
use Rattle.book.proofs.Theorems.{one_number}
use Rattle.demands.specs.Faults.{block_tests, book_tests, area_tests, replay_tests, out_tests, tidy_tests}
use Rattle.demands.proofs.AnswerLaws as answer
use Rattle.demands.proofs.AnswerLaws.{InRow}

pub block_in_row : (b name : List ℕ) (i : ℕ) (out : List ℕ) (a : Answer) (left : List ℕ) → BlockWritten most_names b name i out a left → InRow a (block_tests b name out)
block_in_row b name i out a left (BlockWritten.faulty {n = n} f e l) = InRow.failed n e f
block_in_row b name i out a left (BlockWritten.written h s e l) = InRow.passed _ e h

-- ---- a whole book

module _ (book : List ℕ) where
  -- what is asked of whole blocks
  abbrev whole : List Test
  whole =
      record { number = wrong_check; holds = Bad book wrong_check → ⊥ } ∷ record { number = wrong_field; holds = Bad book wrong_field → ⊥ }
      ∷ record { number = table_not_sound; holds = (cs : List Note) → Right book cs → Room most_names cs } ∷ []

  -- of a book that replays, every test holds
  all_right : Replayable most_names book → AllHold (book_tests book)
  all_right h = (
    (length h.notes, right_length h.right),
    (
      (λ k. right_not_bad h.right k),
      ((λ k. right_not_bad h.right k), ((λ cs r. subst (Room most_names) (one_right h.right r) h.room), tt)),
    ),
  )

  -- and of one that is refused, the first that fails has its number
  book_fault : {n : ℕ} → BookFault most_names book n → FirstFault (book_tests book) n
  book_fault (BookFault.cut h) = inl (h, refl)
  book_fault (BookFault.bad {n} w h) = inr (w, go (bad_number h))
    where
      go : (n ≡ 42) ⊎ (n ≡ 43) → FirstFault whole n
      go (inl e) = inl ((λ f. f (subst (Bad book) e h)), e)
      go (inr e) = inr ((λ k. omega (arith, one_number book 42 n k h, e)), inl ((λ f. f (subst (Bad book) e h)), e))
  book_fault (BookFault.full {cs} r h) =
      inr ((length cs, right_length r), inr ((λ k. right_not_bad r k), inr ((λ k. right_not_bad r k), inl ((λ f. h (f cs r)), refl))))

  module _ (area : List ℕ) (a : Answer) (left : List ℕ) where
    pub replay_in_row : Replays most_names book area a left → InRow a (replay_tests book area)
    replay_in_row (Replays.faulty {n = n} f e l) = InRow.failed n e (fault_before_lem (book_tests book) (area_tests area) n (book_fault f))
    replay_in_row (Replays.short h room e l) = answer.after (book_tests book) (area_tests area) (all_right h) (InRow.failed 13 e (inl ((λ f. omega (arith, f, room)), refl)))
    replay_in_row (Replays.replayed h room e l) = answer.after (book_tests book) (area_tests area) (all_right h) (InRow.passed 0 e (omega (arith, room), tt))

  module _ (out : List ℕ) (a : Answer) (left : List ℕ) where
    abbrev Fits : List Note → Type 0
    Fits cs = length (tidied (after cs)) ≤ length out

    pub tidy_in_row : Tidies most_names book out a left → InRow a (tidy_tests book out)
    tidy_in_row (Tidies.faulty {n = n} f e l) = InRow.failed n e (fault_before_lem (book_tests book) (out_tests book out) n (book_fault f))
    tidy_in_row (Tidies.short h room e l) =
        answer.after (book_tests book) (out_tests book out) (all_right h) (InRow.failed 13 e (inl ((λ f. omega (arith, f h.notes h.right, room)), refl)))
    tidy_in_row (Tidies.written h room e l) = answer.after (book_tests book) (out_tests book out) (all_right h) (InRow.passed _ e ((λ cs r. subst Fits (one_right h.right r) room), tt))

  pub sound_in_row : (a : Answer) → CountsSound most_names book a → InRow a []
  sound_in_row a c = InRow.passed c.blocks c.answer tt
