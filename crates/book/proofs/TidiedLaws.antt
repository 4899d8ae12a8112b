-- What tidying leaves, replayed, is the table of the old book; and no shorter book is. Assumes nothing.
use Prim.Native.Nat.{ℕ, ◌*◌, ◌^◌, ◌≤◌}
use mathlib.Core.Path.{◌≡◌, refl, sym, ap, subst, ◌∙◌}
use mathlib.Core.List.{List, []}
use native.Mathlib.Omega.{arith}
use lib.ListN.{length, take}
use Rattle.base.specs.Answer.{number, value}
use Rattle.base.specs.Bytes.{overlay}
use Rattle.base.specs.declared.Answer.{Answer}
use Rattle.base.specs.declared.Answer.TheVariants.{Accepted}
use Rattle.block.specs.Sealed.{block_size}
use Rattle.slots.specs.Form.{TableEntry, table_bytes, IsTable, Sound}
use Rattle.slots.specs.Sizes.{slot_size}
use Rattle.slots.proofs.Theorems.{one_table}
use Rattle.table.proofs.SoundLaws.{SoundEntries}
use Rattle.book.specs.Notes.{after}
use Rattle.book.specs.Books.{Replayable, tidied}
use Rattle.book.specs.Calls.{Replays, Tidies}
use Rattle.book.proofs.BookLaws.{right_length}
use Rattle.book.proofs.CallLaws.{same_table, no_book_fault, replayed, was_tidied}
use Rattle.book.proofs.MoreLaws.{after_more}
use Rattle.book.proofs.SoundLaws.{sound_after, names_count}
use Rattle.book.proofs.TidyLaws.{tidied_replays, tidied_after, length_tidied}

module _ (limit : ℕ) (b : List ℕ) (h : Replayable limit b) where
  tidy_book : Replayable limit (tidied (after h.notes))
  tidy_book = tidied_replays limit (after h.notes) (sound_after limit b h) (names_count limit b h)

  tidy_table : after tidy_book.notes ≡ after h.notes
  unfolding tidy_book
  tidy_table = tidied_after limit (after h.notes) (sound_after limit b h) (names_count limit b h)

  -- whatever a replay of the book answers and leaves, one of the tidied book does
  replays_tidied : (area : List ℕ) (q : Answer) (left : List ℕ) → Replays limit b area q left → Replays limit (tidied (after h.notes)) area q left
  replays_tidied area q left (Replays.faulty f a e) = absurd (no_book_fault limit b h f)
  replays_tidied area q left (Replays.short k l a e) = Replays.short tidy_book l a e
  replays_tidied area q left (Replays.replayed k l a e) =
      Replays.replayed tidy_book l a (e ∙ ap (λ (t : List TableEntry). overlay area 0 (table_bytes limit t)) (same_table limit b k h ∙ sym tidy_table))

module _ (limit : ℕ) (b out : List ℕ) (r : Answer) (left : List ℕ) (tidy : Tidies limit b out r left) (done : number r ≡ 0) where
  pub same_after_tidy : (area : List ℕ) (q : Answer) (now : List ℕ) → Replays limit b area q now → Replays limit (take (value r) left) area q now
  same_after_tidy area q now k =
      let t = was_tidied limit b out tidy done in
      subst (λ (x : List ℕ). Replays limit x area q now) (sym t.bytes) (replays_tidied limit b t.book area q now k)

  -- every book with the same table has at least as many bytes: a block brings at most one name
  pub none_shorter : (area : List ℕ) (q : Answer) (now : List ℕ) → Replays limit b area q now → number q ≡ 0
      → (other area' : List ℕ) (q' : Answer) (now' : List ℕ) → Replays limit other area' q' now' → number q' ≡ 0
      → take (slot_size * limit) now' ≡ take (slot_size * limit) now → value r ≤ length other
  none_shorter area q now k fine other area' q' now' k' fine' same =
      let t = was_tidied limit b out tidy done in
      let x = replayed limit b area k fine in
      let y = replayed limit other area' k' fine' in
      let one : after t.book.notes ≡ after y.book.notes =
      same_table limit b t.book x.book
      ∙ one_table limit (after x.book.notes) (after y.book.notes) (take (slot_size * limit) now) x.table (subst (IsTable limit (after y.book.notes)) same y.table) in
      let size : value r ≡ block_size * length (after t.book.notes) = ap value t.answered ∙ length_tidied (after t.book.notes) (sound_after limit b t.book).each in
      let few = after_more y.book.notes [] in
      let long = right_length y.book.right in
      omega (arith, size, ap length one, few, long)

-- a book that is begun from a table replays to it
pub table_again : (limit : ℕ) (b : List ℕ) (s : Sound limit b) → length s.table ≤ 2 ^ 32 → (area : List ℕ) → slot_size * limit ≤ length area
    → Replays limit (tidied s.table) area (Accepted 0) (overlay area 0 b)
table_again limit b s few area fits =
    let sound : SoundEntries limit s.table = record { each = s.slots.each; room = s.slots.room; distinct = s.distinct } in
    Replays.replayed (tidied_replays limit s.table sound few) fits refl
    (ap (overlay area 0) (s.slots.form ∙ ap (table_bytes limit) (sym (tidied_after limit s.table sound few))))
