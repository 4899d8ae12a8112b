-- A name sought backwards in a book that is right so far, and a book judged to its end. Assumes nothing.
use Prim.Native.Nat.{ℕ, zero, suc, ◌+◌, ◌*◌, ◌-◌, ◌/◌, ◌≤◌, ◌<◌}
use mathlib.Core.Bool.{Bool, true, false, cond, true≢false}
use mathlib.Core.Path.{◌≡◌, refl, sym, ap, ap₂, subst, ◌∙◌}
use mathlib.Core.List.{List, [], ◌∷◌, ◌++◌, append_assoc}
use mathlib.Core.Option.{Option, none, some}
use native.Mathlib.Nat.{suc-ne-zero}
use native.Mathlib.Omega.{arith}
use lib.Dec.{eqb}
use lib.ListN.{length, take, drop, get_or, length-drop}
use lib.Seq.{take_at, take_all, drop-drop, take-take, take-add, drop-append-add, length-take-le, get_or-take, get_or-drop, take-append-add}
use Rattle.base.specs.Bytes.{eq_bytes}
use Rattle.base.proofs.Lists.{drop_take}
use Rattle.base.proofs.Tests.{eq_bytes_true, eq_eq_bytes, ne_eq_bytes}
use Rattle.block.specs.Sealed.{IsSealed}
use Rattle.slots.specs.Fields.{there}
use Rattle.slots.specs.Form.{TableEntry}
use Rattle.table.specs.Steps.{find}
use Rattle.book.specs.Notes.{Note, noted, after_from, after}
use Rattle.book.specs.LastNote.{about, said, last_said}
use Rattle.book.specs.Blocks.{kind, Says}
use Rattle.book.specs.Books.{RightFrom, BadFrom, Right, Bad}
use Rattle.book.proofs.BlockLaws.{says_length, block_sealed}
use Rattle.book.proofs.BookLaws.{right_length}
use Rattle.book.proofs.NoteLaws.{said_snoc}
use Rattle.book.proofs.Theorems.{replays_on, stands_as_last_said}
use Rattle.book_block.specs.Promise.{SaysAlone, BlockIs}
use Rattle.book_replay.specs.Judging.{head_of, block_at, RightBlocks, FaultIs, JudgesRest}
use Rattle.book_replay.proofs.SeenLaws.{told, said_alone, fault_bad, kind_of, head_of_lem}
use Rattle.book_replay.proofs.HeadLaws.{one_head}

-- ---- block j of a right book

pub record NoteAt (i : ℕ) (b : List ℕ) (cs : List Note) (j : ℕ) : Type 0 where
  pub note : Note
  pub before : List Note
  pub later : List Note
  pub cut : cs ≡ before ++ note ∷ later
  pub count : length before ≡ j
  pub tells : SaysAlone (i + j) (take 512 (drop (512 * j) b)) note

pub right_at : {i : ℕ} {t : List TableEntry} {b : List ℕ} {cs : List Note} (j : ℕ) → RightFrom i t b cs → j < length cs → NoteAt i b cs j
right_at j (RightFrom.over e) less = absurd (omega (arith, less))
right_at {i} {t} {b} zero (RightFrom.more {c} {cs} x r e s h) less =
    record {
      note = c;
      before = [];
      later = cs;
      cut = refl;
      count = refl;
      tells = (let n : i ≡ i + 0 = omega arith in subst (λ (k : ℕ). SaysAlone k (take 512 (drop (512 * 0) b)) c) n (subst (λ (z : List ℕ). SaysAlone i z c) (sym (ap (take 512) e ∙ take_at x r 512 (says_length i t x c s))) (said_alone i t x c s)));
    }
right_at {i} {t} {b} (suc j) (RightFrom.more {c} {cs} x r e s h) less =
    let k = right_at j h (omega (arith, less)) in
    let same : drop (512 * suc j) (x ++ r) ≡ drop (512 * j) r = (let n : 512 * suc j ≡ length x + 512 * j = omega (arith, says_length i t x c s) in ap (λ (m : ℕ). drop m (x ++ r)) n ∙ drop-append-add x r (512 * j)) in
    record {
      note = k.note;
      before = c ∷ k.before;
      later = k.later;
      cut = ap (◌∷◌ c) k.cut;
      count = ap suc k.count;
      tells = (let n : suc i + j ≡ i + suc j = omega arith in subst (λ (m : ℕ). SaysAlone m (take 512 (drop (512 * suc j) b)) k.note) n (subst (λ (z : List ℕ). SaysAlone (suc i + j) z k.note) (sym (ap (λ (z : List ℕ). take 512 (drop (512 * suc j) z)) e ∙ ap (take 512) same)) k.tells));
    }

module _ (book : List ℕ) (i : ℕ) (long : 512 * i ≤ length book) (cs : List Note) (right : Right (take (512 * i) book) cs) where
  pub notes_count : length cs ≡ i
  notes_count = let l : length (take (512 * i) book) ≡ 512 * i = length-take-le (512 * i) book long in omega (arith, right_length right, l)

  block_in : (j : ℕ) → j < i → take 512 (drop (512 * j) (take (512 * i) book)) ≡ block_at book j
  block_in j less = ap (take 512) (drop_take (512 * j) (512 * i) book) ∙ take-take 512 (512 * i - 512 * j) (drop (512 * j) book) (omega (arith, less))

  block_long : (j : ℕ) → j < i → length (block_at book j) ≡ 512
  block_long j less = length-take-le 512 (drop (512 * j) book) (let l : length (drop (512 * j) book) ≡ length book - 512 * j = length-drop (512 * j) book in omega (arith, l, long, less))

  module _ (n head : List ℕ) (own : head ≡ head_of n) (j : ℕ) (less : j < i) where
    at : NoteAt 0 (take (512 * i) book) cs j
    at = right_at j right (omega (arith, less, notes_count))

    tells_at : SaysAlone j (block_at book j) at.note
    tells_at = (let e : 0 + j ≡ j = omega arith in subst (λ (k : ℕ). SaysAlone k (block_at book j) at.note) e (subst (λ (z : List ℕ). SaysAlone (0 + j) z at.note) (block_in j less) at.tells))

    head_at : take 256 (drop (512 * j + 5) book) ≡ head_of (about at.note)
    head_at = sym (part_of book j) ∙ head_of_lem j [] (block_at book j) (block_long j less) at.note tells_at
      where
        part_of : (b : List ℕ) (k : ℕ) → take 256 (drop 5 (take 512 (drop (512 * k) b))) ≡ take 256 (drop (512 * k + 5) b)
        part_of b k = ap (take 256) (drop_take 5 512 (drop (512 * k) b)) ∙ take-take 256 507 (drop 5 (drop (512 * k) b)) (omega arith) ∙ ap (take 256) (drop-drop 5 (512 * k) b)

    kind_at : get_or book (512 * j + 4) 0 ≡ kind at.note
    kind_at = sym (get_or-take 512 (drop (512 * j) book) 4 0 (omega arith) ∙ get_or-drop (512 * j) book 4 0) ∙ kind_of j [] (block_at book j) (block_long j less) at.note tells_at

    -- what the first j + 1 notes say last, by block j
    one_more : last_said n none (take (j + 1) cs) ≡ cond (eq_bytes (about at.note) n) (said at.note) (last_said n none (take j cs))
    one_more =
        let front : take j cs ≡ at.before = ap (take j) at.cut ∙ take_at at.before (at.note ∷ at.later) j at.count in
        let more : take (j + 1) cs ≡ at.before ++ at.note ∷ [] = ap₂ (λ (k : ℕ) (l : List Note). take (k + 1) l) (sym at.count) at.cut ∙ take-append-add at.before (at.note ∷ at.later) 1 in
        ap (last_said n none) more ∙ said_snoc n none at.before at.note ∙ ap (λ (l : List Note). cond (eq_bytes (about at.note) n) (said at.note) (last_said n none l)) (sym front)

    pub sought_later : last_said n none cs ≡ last_said n none (take (j + 1) cs) → eq_bytes (take 256 (drop (512 * j + 5) book)) head ≡ false → last_said n none cs ≡ last_said n none (take j cs)
    sought_later s e =
        let other : eq_bytes (about at.note) n ≡ false = ne_eq_bytes (about at.note) n (λ same. true≢false (sym (eq_eq_bytes (take 256 (drop (512 * j + 5) book)) head (head_at ∙ ap head_of same ∙ sym own)) ∙ e)) in
        s ∙ one_more ∙ ap (λ (b : Bool). cond b (said at.note) (last_said n none (take j cs))) other

    there_said : (c : Note) → eqb (kind c) 1 ≡ there (said c)
    there_said (Note.gone m) = refl
    there_said (Note.stands e) = refl

    pub sought_here : last_said n none cs ≡ last_said n none (take (j + 1) cs) → eq_bytes (take 256 (drop (512 * j + 5) book)) head ≡ true → eqb (get_or book (512 * j + 4) 0) 1 ≡ there (find n (after cs))
    sought_here s e =
        let same : eq_bytes (about at.note) n ≡ true = eq_eq_bytes (about at.note) n (one_head (about at.note) n (sym head_at ∙ eq_bytes_true (take 256 (drop (512 * j + 5) book)) head e ∙ own)) in
        ap (λ (v : ℕ). eqb v 1) kind_at ∙ there_said at.note
        ∙ ap there (sym (stands_as_last_said n cs ∙ s ∙ one_more ∙ ap (λ (b : Bool). cond b (said at.note) (last_said n none (take j cs))) same))

  pub sought_none : (n : List ℕ) → last_said n none cs ≡ last_said n none (take i cs)
  sought_none n = ap (last_said n none) (sym (take_all i cs (omega (arith, notes_count))))

  pub sought_all : (n : List ℕ) → last_said n none cs ≡ last_said n none (take 0 cs) → false ≡ there (find n (after cs))
  unfolding last_said
  sought_all n s = ap there (sym (stands_as_last_said n cs ∙ s))

-- ---- what a block has wrong, however many names stand

module _ (i : ℕ) (t : List TableEntry) (y : List ℕ) (long : length y ≡ 512) where
  pub beyond_fault : (n : ℕ) → BlockIs i y n → (n ≡ 0 → ⊥) → FaultIs i y t n
  beyond_fault n b z = record { right = λ e. absurd (z e); wrong = λ _ rest. fault_bad i t y long b z rest }

  module _ (n : ℕ) (b : BlockIs i y n) (fine : n ≡ 0) where
    pub beyond_stands : (get_or y 4 0 ≡ 0 → ⊥) → FaultIs i y t 0
    beyond_stands some_kind = go (told b fine).0 (told b fine).1
      where
        go : (c : Note) → SaysAlone i y c → FaultIs i y t 0
        go (Note.gone m) k = absurd (some_kind (kind_of i t y long (Note.gone m) k))
        go (Note.stands e) k = record { right = λ _. (Note.stands e, record { number = k.number; fit = k.fit; bytes = k.bytes; follows = tt }); wrong = λ z rest. absurd (z refl) }

    module _ (r : Bool) (sought : (m : List ℕ) → take 256 (drop 5 y) ≡ head_of m → r ≡ there (find m t)) (zero_kind : get_or y 4 0 ≡ 0) where
      pub beyond_gone : r ≡ true → FaultIs i y t 0
      beyond_gone yes_there = go (told b fine).0 (told b fine).1
        where
          entry : (m : List ℕ) (o : Option TableEntry) → find m t ≡ o → true ≡ there o → (e : TableEntry) × (find m t ≡ some e)
          entry m none f e = absurd (true≢false e)
          entry m (some d) f e = (d, f)

          go : (c : Note) → SaysAlone i y c → FaultIs i y t 0
          go (Note.gone m) k =
              record {
                right = λ _. (
                  Note.gone m,
                  record { number = k.number; fit = k.fit; bytes = k.bytes; follows = entry m (find m t) refl (sym yes_there ∙ sought m (head_of_lem i t y long (Note.gone m) k)) },
                );
                wrong = λ z rest. absurd (z refl);
              }
          go (Note.stands e) k = absurd (suc-ne-zero 0 (sym (kind_of i t y long (Note.stands e) k) ∙ zero_kind))

      pub beyond_missing : r ≡ false → FaultIs i y t 43
      beyond_missing not_there = record { right = λ e. absurd (omega (arith, e)); wrong = λ _ rest. BadFrom.field y rest refl long good nothing }
        where
          known : (c : Note) × SaysAlone i y c
          known = told b fine

          good : IsSealed y
          good = subst IsSealed (sym known.1.bytes) (block_sealed i known.0 known.1.fit)

          nothing : (c : Note) → Says i t y c → ⊥
          nothing (Note.stands e) s = suc-ne-zero 0 (sym (kind_of i t y long (Note.stands e) (said_alone i t y (Note.stands e) s)) ∙ zero_kind)
          nothing (Note.gone m) s = true≢false (sym (sym not_there ∙ sought m (head_of_lem i t y long (Note.gone m) (said_alone i t y (Note.gone m) s)) ∙ ap there s.follows.1))

pub fault_as : {i : ℕ} {y x : List ℕ} {t : List TableEntry} {r : ℕ} → y ≡ x → FaultIs i y t r → FaultIs i x t r
fault_as {i} {y} {x} {t} {r} e h = subst (λ (z : List ℕ). FaultIs i z t r) e h

-- ---- to the end of the book

-- a bad block behind right ones
pub bad_behind : {i : ℕ} {t : List TableEntry} {b : List ℕ} {cs : List Note} (w : List ℕ) (n : ℕ) → RightFrom i t b cs → BadFrom (i + length cs) (after_from cs t) w n → BadFrom i t (b ++ w) n
unfolding after_from
bad_behind {i} {t} {b} w n (RightFrom.over e) h =
    let same : i + 0 ≡ i = omega arith in subst (λ (z : List ℕ). BadFrom i t (z ++ w) n) (sym e) (subst (λ (j : ℕ). BadFrom j t w n) same h)
bad_behind {i} {t} {b} w n (RightFrom.more {c} {cs} x r e s h) k =
    let same : i + suc (length cs) ≡ suc i + length cs = omega arith in
    BadFrom.later c x (r ++ w) (ap (λ (z : List ℕ). z ++ w) e ∙ append_assoc x r w) s (bad_behind w n h (subst (λ (j : ℕ). BadFrom j (after_from cs (noted c t)) w n) same k))

module _ (book : List ℕ) (i : ℕ) (more : i < length book / 512) (cs : List Note) (right : Right (take (512 * i) book) cs) where
  low_enough : 512 * i ≤ length book
  low_enough = omega (arith, more)

  pub rest_bad : (n : ℕ) → ((rest : List ℕ) → BadFrom i (after cs) (block_at book i ++ rest) n) → Bad (take (512 * (length book / 512)) book) n
  rest_bad n h =
      let k = 512 * (length book / 512) - 512 * i - 512 in
      let size : 512 * (length book / 512) ≡ 512 * i + (512 + k) = omega (arith, more) in
      let cut : take (512 * (length book / 512)) book ≡ take (512 * i) book ++ (block_at book i ++ take k (drop 512 (drop (512 * i) book))) =
      ap (λ (j : ℕ). take j book) size ∙ take-add (512 * i) (512 + k) book ∙ ap (λ (z : List ℕ). take (512 * i) book ++ z) (take-add 512 k (drop (512 * i) book)) in
      let number : i ≡ 0 + length cs = omega (arith, notes_count book i low_enough cs right) in
      subst (λ (z : List ℕ). Bad z n) (sym cut)
      (bad_behind (block_at book i ++ take k (drop 512 (drop (512 * i) book))) n right (subst (λ (j : ℕ). BadFrom j (after cs) (block_at book i ++ take k (drop 512 (drop (512 * i) book))) n) number (h (take k (drop 512 (drop (512 * i) book))))))

  pub next_right : (c : Note) → Says i (after cs) (block_at book i) c → RightBlocks book (i + 1)
  unfolding RightBlocks
  next_right c s =
      let bytes : take (512 * (i + 1)) book ≡ take (512 * i) book ++ block_at book i = (let e : 512 * (i + 1) ≡ 512 * i + 512 = omega arith in ap (λ (j : ℕ). take j book) e ∙ take-add (512 * i) 512 book) in (
        cs ++ c ∷ [],
        subst (λ (b : List ℕ). Right b (cs ++ c ∷ [])) (sym bytes)
            (replays_on (take (512 * i) book) cs (block_at book i) c right (subst (λ (j : ℕ). Says j (after cs) (block_at book i) c) (sym (notes_count book i low_enough cs right)) s)),
      )

-- ---- the turn of the search, from index m down to m - 1

module _ (book : List ℕ) (i : ℕ) (long : 512 * i ≤ length book) (cs : List Note) (right : Right (take (512 * i) book) cs) (n head : List ℕ) (own : head ≡ head_of n)
    (m : ℕ) (some_left : 0 < m) (high : m ≤ i) (s : last_said n none cs ≡ last_said n none (take m cs)) where
  before_it : last_said n none cs ≡ last_said n none (take (m - 1 + 1) cs)
  before_it = let e : m ≡ m - 1 + 1 = omega (arith, some_left) in s ∙ ap (λ (k : ℕ). last_said n none (take k cs)) e

  pub down_later : eq_bytes (take 256 (drop (512 * (m - 1) + 5) book)) head ≡ false → last_said n none cs ≡ last_said n none (take (m - 1) cs)
  down_later e = sought_later book i long cs right n head own (m - 1) (omega (arith, some_left, high)) before_it e

  pub down_here : eq_bytes (take 256 (drop (512 * (m - 1) + 5) book)) head ≡ true → eqb (get_or book (512 * (m - 1) + 4) 0) 1 ≡ there (find n (after cs))
  down_here e = sought_here book i long cs right n head own (m - 1) (omega (arith, some_left, high)) before_it e

pub down_within : (book : List ℕ) (i m : ℕ) → 512 * i ≤ length book → 0 < m → m ≤ i → 512 * (m - 1) + 512 ≤ length book
down_within book i m long some_left high = omega (arith, long, some_left, high)

pub sought_end : (book : List ℕ) (i : ℕ) (long : 512 * i ≤ length book) (cs : List Note) (right : Right (take (512 * i) book) cs) (n : List ℕ) (m : ℕ) → m ≤ 0
    → last_said n none cs ≡ last_said n none (take m cs) → false ≡ there (find n (after cs))
sought_end book i long cs right n m last s =
    let e : m ≡ 0 = omega (arith, last) in sought_all book i long cs right n (s ∙ ap (λ (k : ℕ). last_said n none (take k cs)) e)

-- ---- the turn of the judging loop

pub judged_rest_bad : (book : List ℕ) (i : ℕ) → i < length book / 512 → RightBlocks book i → (r : ℕ) → ((cs : List Note) → Right (take (512 * i) book) cs → FaultIs i (block_at book i) (after cs) r) → (r ≡ 0 → ⊥)
    → JudgesRest book r
unfolding RightBlocks
judged_rest_bad book i more h r f z = record { whole = λ e. absurd (z e); bad = λ _. rest_bad book i more h.0 h.1 r ((f h.0 h.1).wrong z) }

pub judged_rest_next : (book : List ℕ) (i : ℕ) → i < length book / 512 → RightBlocks book i → (r : ℕ) → ((cs : List Note) → Right (take (512 * i) book) cs → FaultIs i (block_at book i) (after cs) r) → r ≡ 0
    → (i + 1 ≤ length book / 512) × RightBlocks book (i + 1)
unfolding RightBlocks
judged_rest_next book i more h r f z =
    let n = (f h.0 h.1).right z in (omega (arith, more), next_right book i more h.0 h.1 n.0 n.1)

pub judged_rest_whole : (book : List ℕ) (i : ℕ) → i ≤ length book / 512 → length book / 512 ≤ i → RightBlocks book i → JudgesRest book 0
judged_rest_whole book i low last h =
    let e : i ≡ length book / 512 = omega (arith, low, last) in record { whole = λ _. subst (RightBlocks book) e h; bad = λ z. absurd (z refl) }
