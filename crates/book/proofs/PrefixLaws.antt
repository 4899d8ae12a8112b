-- The first blocks of a book. Assumes nothing.
use Prim.Native.Nat.{ℕ, zero, suc, ◌+◌, ◌*◌, ◌≤◌}
use mathlib.Core.Path.{◌≡◌, refl, sym, ap, ap₂, subst, ◌∙◌}
use mathlib.Core.List.{List, [], ◌∷◌, ◌++◌, append_assoc}
use native.Mathlib.Omega.{arith}
use lib.ListN.{length, take}
use lib.Seq.{take-nil, take-append-add}
use Rattle.base.proofs.Lists.{append_split}
use Rattle.slots.specs.Form.{TableEntry}
use Rattle.book.specs.Notes.{Note, noted, after_from}
use Rattle.book.specs.Blocks.{Says}
use Rattle.book.specs.Books.{RightFrom, RoomFrom, Replayable}
use Rattle.book.proofs.BlockLaws.{says_length, says_one}
use Rattle.book.proofs.BookLaws.{no_block}

-- a longer right book begins with the notes of the shorter one
pub right_front : {i : ℕ} {t : List TableEntry} {b : List ℕ} {cs ds : List Note} (w : List ℕ) → RightFrom i t b cs → RightFrom i t (b ++ w) ds → (es : List Note) × (ds ≡ cs ++ es)
right_front {i} {t} {b} {cs} {ds} w (RightFrom.over e) k = (ds, refl)
right_front {i} {t} {b} w (RightFrom.more {c} {cs} x r e s h) (RightFrom.over f) = absurd (no_block x (r ++ w) (says_length i t x c s) (sym f ∙ ap (λ (z : List ℕ). z ++ w) e ∙ append_assoc x r w))
right_front {i} {t} {b} w (RightFrom.more {c} {cs} x r e s h) (RightFrom.more {c = d} {cs = ds} y q f u k) =
    let parts = append_split {a = x} {b = y} (says_length i t x c s ∙ sym (says_length i t y d u)) (sym (ap (λ (z : List ℕ). z ++ w) e ∙ append_assoc x r w) ∙ f) in
    let same : d ≡ c = says_one i t y d c u (subst (λ (z : List ℕ). Says i t z c) parts.0 s) in
    let rest = right_front w h (subst (λ (z : List ℕ). RightFrom (suc i) (noted c t) z ds) (sym parts.1) (subst (λ (v : Note). RightFrom (suc i) (noted v t) q ds) same k)) in
    (rest.0, ap₂ ◌∷◌ same rest.1)

pub room_front : (limit : ℕ) (cs es : List Note) (t : List TableEntry) → RoomFrom limit t (cs ++ es) → length (after_from cs t) ≤ limit
unfolding RoomFrom after_from
room_front limit [] [] t h = h
room_front limit [] (e ∷ es) t h = h.0
room_front limit (c ∷ cs) es t h = room_front limit cs es (noted c t) h.1

-- the first k blocks of a book that replays are such a book
pub right_take : {i : ℕ} {t : List TableEntry} {b : List ℕ} {cs : List Note} (k : ℕ) → RightFrom i t b cs → RightFrom i t (take (512 * k) b) (take k cs)
right_take zero h = RightFrom.over refl
right_take (suc k) (RightFrom.over e) = RightFrom.over (ap (take (512 * suc k)) e ∙ take-nil (512 * suc k))
right_take {i} {t} {b} (suc k) (RightFrom.more {c} {cs} x r e s h) =
    let size : 512 * suc k ≡ length x + 512 * k = omega (arith, says_length i t x c s) in
    RightFrom.more x (take (512 * k) r) (ap₂ take size e ∙ take-append-add x r (512 * k)) s (right_take {i = suc i} {t = noted c t} {b = r} {cs = cs} k h)

pub room_take : (limit : ℕ) (cs : List Note) (t : List TableEntry) (k : ℕ) → RoomFrom limit t cs → RoomFrom limit t (take k cs)
unfolding RoomFrom
room_take limit [] t zero h = h
room_take limit [] t (suc k) h = h
room_take limit (c ∷ cs) t zero h = h.0
room_take limit (c ∷ cs) t (suc k) h = (h.0, room_take limit cs (noted c t) k h.1)

pub replays_take : (limit : ℕ) (b : List ℕ) (k : ℕ) → Replayable limit b → Replayable limit (take (512 * k) b)
replays_take limit b k h = record { notes = take k h.notes; right = right_take k h.right; room = room_take limit h.notes [] k h.room }
