-- A tidied book replays to the same table. Assumes nothing.
use Prim.Native.Nat.{ℕ, suc, ◌+◌, ◌*◌, ◌^◌, ◌≤◌, ◌<◌}
use mathlib.Core.Path.{◌≡◌, refl, sym, ap, subst, ◌∙◌}
use mathlib.Core.List.{List, [], ◌∷◌, ◌++◌, append-nil, append_assoc}
use mathlib.Core.Option.{none}
use native.Mathlib.Omega.{arith}
use lib.ListN.{length, length-append}
use Rattle.base.specs.Logic.{Every}
use Rattle.base.proofs.Lists.{map_append}
use Rattle.base.proofs.Tests.{ne_eq_bytes}
use Rattle.block.specs.Sealed.{block_size}
use Rattle.slots.specs.Entry.{names, Distinct}
use Rattle.slots.specs.Form.{TableEntry, WellFormed}
use Rattle.table.specs.Steps.{find}
use Rattle.table.proofs.OthersLaws.{find_other}
use Rattle.table.proofs.SoundLaws.{SoundEntries}
use Rattle.book.specs.Notes.{Note, noted, after_from, after, tidy_notes}
use Rattle.book.specs.Blocks.{block_bytes}
use Rattle.book.specs.Books.{RightFrom, RoomFrom, Replayable, blocks_from, tidied}
use Rattle.book.proofs.BlockLaws.{length_block}
use Rattle.book.proofs.NoteLaws.{noted_new}

-- a name that stands among none of them is not found
absent : (n : List ℕ) (t : List TableEntry) → Every (λ m. m ≡ n → ⊥) (names t) → find n t ≡ none
unfolding find
absent n [] h = refl
absent n (e ∷ t) (Every.more d h) = find_other n e t (ne_eq_bytes e.name n d) ∙ absent n t h

-- the names before one are not that one
pub before_apart : (ns : List (List ℕ)) (n : List ℕ) (ms : List (List ℕ)) → Distinct (ns ++ n ∷ ms) → Every (λ m. m ≡ n → ⊥) ns
before_apart [] n ms d = Every.none
before_apart (k ∷ ns) n ms (Distinct.more apart d) = Every.more (λ e. middle ns n ms apart (sym e)) (before_apart ns n ms d)
  where
    middle : (l : List (List ℕ)) (b : List ℕ) (r : List (List ℕ)) → Every (λ m. m ≡ k → ⊥) (l ++ b ∷ r) → b ≡ k → ⊥
    middle [] b r (Every.more h hs) = h
    middle (c ∷ l) b r (Every.more h hs) = middle l b r hs

tidy_on : (u t : List TableEntry) → Distinct (names (u ++ t)) → after_from (tidy_notes t) u ≡ u ++ t
unfolding after_from tidy_notes
tidy_on u [] d = sym (append-nil u)
tidy_on u (e ∷ t) d =
    let cut : names (u ++ e ∷ t) ≡ names u ++ e.name ∷ names t = map_append (λ (c : TableEntry). c.name) u (e ∷ t) in
    let new : noted (Note.stands e) u ≡ u ++ e ∷ [] = noted_new e u (absent e.name u (before_apart (names u) e.name (names t) (subst Distinct cut d))) in
    let same : (u ++ e ∷ []) ++ t ≡ u ++ e ∷ t = append_assoc u (e ∷ []) t in
    ap (after_from (tidy_notes t)) new ∙ tidy_on (u ++ e ∷ []) t (subst (λ (l : List TableEntry). Distinct (names l)) (sym same) d) ∙ same

-- the notes of a table in which no name stands twice replay to it
pub tidy_notes_lem : (t : List TableEntry) → Distinct (names t) → after (tidy_notes t) ≡ t
tidy_notes_lem t d = tidy_on [] t d

-- and there is room for them where there is for the table
room_on : (limit : ℕ) (u t : List TableEntry) → Distinct (names (u ++ t)) → length (u ++ t) ≤ limit → RoomFrom limit u (tidy_notes t)
unfolding RoomFrom tidy_notes
room_on limit u [] d few = omega (arith, ap length (append-nil u), few)
room_on limit u (e ∷ t) d few =
    let cut : names (u ++ e ∷ t) ≡ names u ++ e.name ∷ names t = map_append (λ (c : TableEntry). c.name) u (e ∷ t) in
    let new : noted (Note.stands e) u ≡ u ++ e ∷ [] = noted_new e u (absent e.name u (before_apart (names u) e.name (names t) (subst Distinct cut d))) in
    let same : (u ++ e ∷ []) ++ t ≡ u ++ e ∷ t = append_assoc u (e ∷ []) t in (
      omega (arith, length-append u (e ∷ t), few),
      subst (λ (l : List TableEntry). RoomFrom limit l (tidy_notes t)) (sym new)
          (room_on limit (u ++ e ∷ []) t (subst (λ (l : List TableEntry). Distinct (names l)) (sym same) d) (omega (arith, ap length same, few))),
    )

-- ---- the blocks

right_blocks : (i : ℕ) (u t : List TableEntry) → Every WellFormed t → i + length t ≤ 2 ^ 32 → RightFrom i u (blocks_from i (tidy_notes t)) (tidy_notes t)
unfolding blocks_from tidy_notes
right_blocks i u [] h few = RightFrom.over refl
right_blocks i u (e ∷ t) (Every.more w h) few =
    let low : i < 2 ^ 32 = omega (arith, few) in
    RightFrom.more (block_bytes i (Note.stands e)) (blocks_from (suc i) (tidy_notes t)) refl (record { number = low; fit = w; bytes = refl; follows = tt })
    (right_blocks (suc i) (noted (Note.stands e) u) t h (omega (arith, few)))

-- a tidied book of sound entries is a book that replays
pub tidied_replays : (limit : ℕ) (t : List TableEntry) → SoundEntries limit t → length t ≤ 2 ^ 32 → Replayable limit (tidied t)
unfolding tidied
tidied_replays limit t s few =
    record { notes = tidy_notes t; right = right_blocks 0 [] t s.each (omega (arith, few)); room = room_on limit [] t s.distinct s.room }

-- to these entries
pub tidied_after : (limit : ℕ) (t : List TableEntry) (s : SoundEntries limit t) (few : length t ≤ 2 ^ 32) → after (tidied_replays limit t s few).notes ≡ t
unfolding tidied_replays
tidied_after limit t s few = tidy_notes_lem t s.distinct

length_blocks : (i : ℕ) (t : List TableEntry) → Every WellFormed t → length (blocks_from i (tidy_notes t)) ≡ block_size * length t
unfolding blocks_from tidy_notes
length_blocks i [] h = refl
length_blocks i (e ∷ t) (Every.more w h) =
    length-append (block_bytes i (Note.stands e)) (blocks_from (suc i) (tidy_notes t)) ∙ (let a = length_block i (Note.stands e) w in let l = length_blocks (suc i) t h in omega (arith, a, l))

-- and has a block for each
pub length_tidied : (t : List TableEntry) → Every WellFormed t → length (tidied t) ≡ block_size * length t
unfolding tidied
length_tidied t h = length_blocks 0 t h
