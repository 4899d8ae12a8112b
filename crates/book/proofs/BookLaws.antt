-- A book block by block: its length, its cuts, that its bytes determine its notes, and that it is right or bad. Assumes nothing.
use Prim.Native.Nat.{ℕ, zero, suc, ◌+◌, ◌*◌, ◌-◌}
use mathlib.Core.Path.{◌≡◌, refl, sym, ap, ap₂, subst, ◌∙◌}
use mathlib.Core.Logic.{◌⊎◌, inl, inr}
use mathlib.Core.List.{List, [], ◌∷◌, ◌++◌, append-nil, append_assoc}
use native.Mathlib.Omega.{arith}
use lib.ListN.{length, take, drop, length-append, length-drop, take-append-drop}
use lib.Seq.{length-take-le}
use Rattle.base.proofs.Lists.{append_split, no_elements}
use Rattle.block.specs.Sealed.{IsSealed}
use Rattle.slots.specs.Form.{TableEntry}
use Rattle.book.specs.Notes.{Note, noted, after_from}
use Rattle.book.specs.Blocks.{Says}
use Rattle.book.specs.Books.{RightFrom, BadFrom}
use Rattle.book.proofs.BlockLaws.{says_length, says_sealed, says_one}
use Rattle.book.proofs.DecideLaws.{Decided, says, is_sealed}

-- ---- lengths

pub right_length : {i : ℕ} {t : List TableEntry} {b : List ℕ} {cs : List Note} → RightFrom i t b cs → length b ≡ 512 * length cs
right_length (RightFrom.over e) = ap length e
right_length {i} {t} (RightFrom.more {c} {cs} x r e s h) =
    let a = says_length i t x c s in let l = right_length h in ap length e ∙ length-append x r ∙ omega (arith, a, l)

pub no_block : (x r : List ℕ) → length x ≡ 512 → [] ≡ x ++ r → ⊥
no_block x r l e = let z : 0 ≡ length x + length r = ap length e ∙ length-append x r in omega (arith, l, z)

-- ---- the bytes determine the notes

pub one_right : {i : ℕ} {t : List TableEntry} {b : List ℕ} {cs ds : List Note} → RightFrom i t b cs → RightFrom i t b ds → cs ≡ ds
one_right (RightFrom.over e) (RightFrom.over f) = refl
one_right {i} {t} (RightFrom.over e) (RightFrom.more {c} x r f s h) = absurd (no_block x r (says_length i t x c s) (sym e ∙ f))
one_right {i} {t} (RightFrom.more {c} x r e s h) (RightFrom.over f) = absurd (no_block x r (says_length i t x c s) (sym f ∙ e))
one_right {i} {t} (RightFrom.more {c} {cs} x r e s h) (RightFrom.more {c = d} {cs = ds} y q f u k) =
    let parts = append_split {a = x} {b = y} (says_length i t x c s ∙ sym (says_length i t y d u)) (sym e ∙ f) in
    let same : d ≡ c = says_one i t y d c u (subst (λ (z : List ℕ). Says i t z c) parts.0 s) in
    ap₂ ◌∷◌ (sym same) (one_right h (subst (λ (z : List ℕ). RightFrom (suc i) (noted c t) z ds) (sym parts.1) (subst (λ (n : Note). RightFrom (suc i) (noted n t) q ds) same k)))

-- ---- never both

pub right_not_bad : {i : ℕ} {t : List TableEntry} {b : List ℕ} {cs : List Note} {n : ℕ} → RightFrom i t b cs → BadFrom i t b n → ⊥
right_not_bad (RightFrom.over e) (BadFrom.check x r f l h) = no_block x r l (sym e ∙ f)
right_not_bad (RightFrom.over e) (BadFrom.field x r f l h k) = no_block x r l (sym e ∙ f)
right_not_bad {i} {t} (RightFrom.over e) (BadFrom.later c x r f s k) = no_block x r (says_length i t x c s) (sym e ∙ f)
right_not_bad {i} {t} (RightFrom.more {c} x r e s h) (BadFrom.check y q f l k) =
    let parts = append_split {a = x} {b = y} (says_length i t x c s ∙ sym l) (sym e ∙ f) in k (subst IsSealed parts.0 (says_sealed i t x c s))
right_not_bad {i} {t} (RightFrom.more {c} x r e s h) (BadFrom.field y q f l g k) =
    let parts = append_split {a = x} {b = y} (says_length i t x c s ∙ sym l) (sym e ∙ f) in k c (subst (λ (z : List ℕ). Says i t z c) parts.0 s)
right_not_bad {i} {t} (RightFrom.more {c} {cs} x r e s h) (BadFrom.later {n} d y q f u k) =
    let parts = append_split {a = x} {b = y} (says_length i t x c s ∙ sym (says_length i t y d u)) (sym e ∙ f) in
    let same : d ≡ c = says_one i t y d c u (subst (λ (z : List ℕ). Says i t z c) parts.0 s) in
    right_not_bad h (subst (λ (z : List ℕ). BadFrom (suc i) (noted c t) z n) (sym parts.1) (subst (λ (m : Note). BadFrom (suc i) (noted m t) q n) same k))

-- ---- always one

abbrev RightOrBad : ℕ → List TableEntry → List ℕ → Type 0
RightOrBad i t b = ((cs : List Note) × RightFrom i t b cs) ⊎ ((n : ℕ) × BadFrom i t b n)

front_length : (k : ℕ) (b : List ℕ) → length b ≡ 512 * suc k → length (take 512 b) ≡ 512
front_length k b l = length-take-le 512 b (omega (arith, l))

rest_length : (k : ℕ) (b : List ℕ) → length b ≡ 512 * suc k → length (drop 512 b) ≡ 512 * k
rest_length k b l = length-drop 512 b ∙ omega (arith, l)

pub right_or_bad_from : (k i : ℕ) (t : List TableEntry) (b : List ℕ) → length b ≡ 512 * k → RightOrBad i t b
right_or_bad_from zero i t b l = inl ([], RightFrom.over (no_elements b (omega (arith, l))))
right_or_bad_from (suc k) i t b l = go (λ j u. right_or_bad_from k j u (drop 512 b) (rest_length k b l)) (says i t (take 512 b)) (is_sealed (take 512 b))
  where
    cut : b ≡ take 512 b ++ drop 512 b
    cut = sym (take-append-drop 512 b)

    on : (c : Note) → Says i t (take 512 b) c → RightOrBad (suc i) (noted c t) (drop 512 b) → RightOrBad i t b
    on c s (inl (cs, h)) = inl (c ∷ cs, RightFrom.more (take 512 b) (drop 512 b) cut s h)
    on c s (inr (n, h)) = inr (n, BadFrom.later c (take 512 b) (drop 512 b) cut s h)

    go : ((j : ℕ) (u : List TableEntry) → RightOrBad j u (drop 512 b)) → Decided ((c : Note) × Says i t (take 512 b) c) → Decided (IsSealed (take 512 b)) → RightOrBad i t b
    go rest (Decided.holds h) d = on h.0 h.1 (rest (suc i) (noted h.0 t))
    go rest (Decided.fails h) (Decided.fails wrong) = inr (42, BadFrom.check (take 512 b) (drop 512 b) cut (front_length k b l) wrong)
    go rest (Decided.fails h) (Decided.holds fine) = inr (43, BadFrom.field (take 512 b) (drop 512 b) cut (front_length k b l) fine (λ c s. h (c, s)))

-- and one fault
pub one_bad : {i : ℕ} {t : List TableEntry} {b : List ℕ} {n m : ℕ} → BadFrom i t b n → BadFrom i t b m → n ≡ m
one_bad (BadFrom.check x r e l h) (BadFrom.check y q f j k) = refl
one_bad (BadFrom.check x r e l h) (BadFrom.field y q f j g k) = let parts = append_split {a = x} {b = y} (l ∙ sym j) (sym e ∙ f) in absurd (h (subst IsSealed (sym parts.0) g))
one_bad {i} {t} (BadFrom.check x r e l h) (BadFrom.later d y q f u k) =
    let parts = append_split {a = x} {b = y} (l ∙ sym (says_length i t y d u)) (sym e ∙ f) in absurd (h (subst IsSealed (sym parts.0) (says_sealed i t y d u)))
one_bad (BadFrom.field x r e l g h) (BadFrom.check y q f j k) = let parts = append_split {a = x} {b = y} (l ∙ sym j) (sym e ∙ f) in absurd (k (subst IsSealed parts.0 g))
one_bad (BadFrom.field x r e l g h) (BadFrom.field y q f j g' k) = refl
one_bad {i} {t} (BadFrom.field x r e l g h) (BadFrom.later d y q f u k) =
    let parts = append_split {a = x} {b = y} (l ∙ sym (says_length i t y d u)) (sym e ∙ f) in absurd (h d (subst (λ (z : List ℕ). Says i t z d) (sym parts.0) u))
one_bad {i} {t} (BadFrom.later c x r e s h) (BadFrom.check y q f j k) =
    let parts = append_split {a = x} {b = y} (says_length i t x c s ∙ sym j) (sym e ∙ f) in absurd (k (subst IsSealed parts.0 (says_sealed i t x c s)))
one_bad {i} {t} (BadFrom.later c x r e s h) (BadFrom.field y q f j g k) =
    let parts = append_split {a = x} {b = y} (says_length i t x c s ∙ sym j) (sym e ∙ f) in absurd (k c (subst (λ (z : List ℕ). Says i t z c) parts.0 s))
one_bad {i} {t} {b} {n} {m} (BadFrom.later c x r e s h) (BadFrom.later d y q f u k) =
    let parts = append_split {a = x} {b = y} (says_length i t x c s ∙ sym (says_length i t y d u)) (sym e ∙ f) in
    let same : d ≡ c = says_one i t y d c u (subst (λ (z : List ℕ). Says i t z c) parts.0 s) in
    one_bad h (subst (λ (z : List ℕ). BadFrom (suc i) (noted c t) z m) (sym parts.1) (subst (λ (v : Note). BadFrom (suc i) (noted v t) q m) same k))

-- ---- one block more behind a book, and a book cut behind a block

pub right_more : {i : ℕ} {t : List TableEntry} {b : List ℕ} {cs : List Note} (x : List ℕ) (c : Note) → RightFrom i t b cs → Says (i + length cs) (after_from cs t) x c → RightFrom i t (b ++ x) (cs ++ c ∷ [])
unfolding after_from
right_more {i} {t} {b} x c (RightFrom.over e) s =
    RightFrom.more x [] (ap (λ (z : List ℕ). z ++ x) e ∙ sym (append-nil x)) (let same : i + 0 ≡ i = omega arith in subst (λ (j : ℕ). Says j t x c) same s) (RightFrom.over refl)
right_more {i} {t} {b} x c (RightFrom.more {c = d} {cs = cs} y r e u h) s =
    RightFrom.more y (r ++ x) (ap (λ (z : List ℕ). z ++ x) e ∙ append_assoc y r x) u
    (let same : i + suc (length cs) ≡ suc i + length cs = omega arith in right_more x c h (subst (λ (j : ℕ). Says j (after_from cs (noted d t)) x c) same s))

-- the last block of a book that has one more than b
pub right_last : {i : ℕ} {t : List TableEntry} {b : List ℕ} {cs ds : List Note} (w : List ℕ) → RightFrom i t b cs → RightFrom i t (b ++ w) ds → length w ≡ 512
    → (c : Note) × (ds ≡ cs ++ c ∷ []) × Says (i + length cs) (after_from cs t) w c
unfolding after_from
right_last {i} {t} {b} w (RightFrom.over e) (RightFrom.over f) l = absurd (no_block w [] l (sym f ∙ ap (λ (z : List ℕ). z ++ w) e ∙ sym (append-nil w)))
right_last {i} {t} {b} w (RightFrom.over e) (RightFrom.more {c = d} {cs = ds} y q f u k) l =
    let parts = append_split {a = w} {b = y} {c = []} {d = q} (l ∙ sym (says_length i t y d u)) (append-nil w ∙ sym (ap (λ (z : List ℕ). z ++ w) e) ∙ f) in
    (d, ap (◌∷◌ d) (one_right k (RightFrom.over (sym parts.1))), subst (λ (j : ℕ). Says j t w d) (omega arith) (subst (λ (z : List ℕ). Says i t z d) (sym parts.0) u))
right_last {i} {t} {b} w (RightFrom.more {c} {cs} x r e s h) (RightFrom.over f) l =
    absurd (no_block x (r ++ w) (says_length i t x c s) (sym f ∙ ap (λ (z : List ℕ). z ++ w) e ∙ append_assoc x r w))
right_last {i} {t} {b} w (RightFrom.more {c} {cs} x r e s h) (RightFrom.more {c = d} {cs = ds} y q f u k) l =
    let parts = append_split {a = x} {b = y} (says_length i t x c s ∙ sym (says_length i t y d u)) (sym (ap (λ (z : List ℕ). z ++ w) e ∙ append_assoc x r w) ∙ f) in
    let same : d ≡ c = says_one i t y d c u (subst (λ (z : List ℕ). Says i t z c) parts.0 s) in
    let last = right_last w h (subst (λ (z : List ℕ). RightFrom (suc i) (noted c t) z ds) (sym parts.1) (subst (λ (v : Note). RightFrom (suc i) (noted v t) q ds) same k)) l in
    (last.0, ap₂ ◌∷◌ same last.1, subst (λ (j : ℕ). Says j (after_from cs (noted c t)) w last.0) (omega arith) last.2)
