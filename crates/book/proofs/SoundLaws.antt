-- What a book leaves is the entries of a sound table. Assumes nothing.
use Prim.Native.Nat.{ℕ, ◌+◌, ◌^◌, ◌≤◌}
use mathlib.Core.Path.{refl, sym, subst}
use mathlib.Core.List.{List, [], ◌∷◌}
use native.Mathlib.Omega.{arith}
use lib.ListN.{length}
use Rattle.base.specs.Logic.{Every}
use Rattle.base.proofs.Lists.{every_append}
use Rattle.slots.specs.Entry.{Distinct}
use Rattle.slots.specs.Form.{TableEntry, WellFormed, table_bytes, IsTable}
use Rattle.table.proofs.SoundLaws.{SoundEntries, every_changed, every_without}
use Rattle.book.specs.Notes.{Note, noted, after_from, after}
use Rattle.book.specs.Blocks.{Fit}
use Rattle.book.specs.Books.{RightFrom, RoomFrom, Replayable}
use Rattle.book.proofs.NoteLaws.{by_find, noted_new, noted_held, noted_gone, distinct_after}
use Rattle.book.proofs.MoreLaws.{after_more}

-- ---- the entries are well formed

each_noted : (c : Note) (t : List TableEntry) → Fit c → Every WellFormed t → Every WellFormed (noted c t)
each_noted (Note.gone n) t f h = subst (Every WellFormed) (sym (noted_gone n t)) (every_without n t h)
each_noted (Note.stands e) t f h =
    by_find e.name t
    (λ g. subst (Every WellFormed) (sym (noted_new e t g)) (every_append t (e ∷ []) h (Every.more f Every.none)))
    (λ d g. subst (Every WellFormed) (sym (noted_held e d t g)) (every_changed e.name (λ _. e) t h (λ _ _ _. f)))

each_after : {i : ℕ} {t : List TableEntry} {b : List ℕ} {cs : List Note} → RightFrom i t b cs → Every WellFormed t → Every WellFormed (after_from cs t)
unfolding after_from
each_after (RightFrom.over e) h = h
each_after {i} {t} (RightFrom.more {c} x r e s k) h = each_after k (each_noted c t s.fit h)

-- ---- and no more than there is room for

pub room_end : (limit : ℕ) (cs : List Note) (t : List TableEntry) → RoomFrom limit t cs → length (after_from cs t) ≤ limit
unfolding RoomFrom after_from
room_end limit [] t h = h
room_end limit (c ∷ cs) t h = room_end limit cs (noted c t) h.1

pub sound_after : (limit : ℕ) (b : List ℕ) (h : Replayable limit b) → SoundEntries limit (after h.notes)
sound_after limit b h =
    record {
      each = each_after h.right Every.none;
      room = room_end limit h.notes [] h.room;
      distinct = distinct_after h.notes [] Distinct.none;
    }

-- so their bytes are a table
pub table_after_lem : (limit : ℕ) (b : List ℕ) (h : Replayable limit b) → IsTable limit (after h.notes) (table_bytes limit (after h.notes))
table_after_lem limit b h = let s = sound_after limit b h in record { each = s.each; room = s.room; form = refl }

-- ---- a right book has at most 2^32 blocks, and as many names at most

count_from : {i : ℕ} {t : List TableEntry} {b : List ℕ} {cs : List Note} → i ≤ 2 ^ 32 → RightFrom i t b cs → i + length cs ≤ 2 ^ 32
count_from {i} low (RightFrom.over e) = omega (arith, low)
count_from {i} low (RightFrom.more {cs = cs} x r e s k) = let h = count_from (let n = s.number in omega (arith, n)) k in omega (arith, h)

pub names_count : (limit : ℕ) (b : List ℕ) (h : Replayable limit b) → length (after h.notes) ≤ 2 ^ 32
names_count limit b h = let n = count_from (omega arith) h.right in let m = after_more h.notes [] in omega (arith, n, m)
