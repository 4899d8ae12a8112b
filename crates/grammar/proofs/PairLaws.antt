-- A text can be cut into entries exactly if its bytes are allowed ones and its parentheses outside comments pairs that do not nest. Assumes nothing.
use Prim.Native.Nat.{ℕ, zero, suc, ◌+◌, ◌≤◌, ◌<◌}
use mathlib.Core.Bool.{Bool, true, false, cond, not, ◌||◌, true≢false}
use mathlib.Core.Path.{◌≡◌, refl, sym, ap, ap₂, subst, ◌∙◌}
use mathlib.Core.Logic.{⊎_elim}
use mathlib.Core.List.{List, [], ◌∷◌, ◌++◌, append_assoc, nil≢cons, cons≢nil, head-eq_of_cons-eq, tail-eq_of_cons-eq}
use native.Mathlib.Omega.{arith}
use lib.Dec.{eqb}
use lib.ListN.{length, length-append}
use borrow.Author.Tests.{eqb-true}
use Rattle.base.specs.Bytes.{ascii}
use Rattle.base.specs.Logic.{Every}
use Rattle.base.proofs.Lists.{every_right}
use Rattle.grammar.specs.Listing.{Kind, blank, line_end, opening, closing, semicolon, word_byte, not_allowed, kind_of, is_comment_kind, is_word_byte, is_comment_byte, begins, LongestRun, Depth, outside, inside, Piece, a_blank, line_inside, opens, closes, a_comment, a_word, Words, Entries}
use Rattle.grammar.specs.Faults.{ShapeFault}
use Rattle.grammar.specs.Whole.{AllowedByte, open_after, uncommented, parentheses, pairs, Whole}
use Rattle.grammar.proofs.BytesLaws.{Of, of_kind_lem, comment_ends, word_of, words_allowed, entries_allowed}
use Rattle.grammar.proofs.ScanLaws.{no_comment, LaidOut, to_end, to_line, to_fault, laid_out}

-- the parentheses of a text outside comments
abbrev shown : List ℕ → List ℕ
shown t = parentheses (uncommented false t)

-- ---- one byte, where no comment is open

quiet_byte : (b : ℕ) (t : List ℕ) → eqb b 59 ≡ false → eqb b 40 ≡ false → eqb b 41 ≡ false → shown (b ∷ t) ≡ shown t
unfolding uncommented parentheses
quiet_byte b t s o c = rw s (rw (o, c) refl)

word_byte_lem : (b : ℕ) (t : List ℕ) → Of word_byte b → shown (b ∷ t) ≡ shown t
word_byte_lem b t h = quiet_byte b t h.3 h.1 h.2

blank_byte : (b : ℕ) (t : List ℕ) → Of blank b → shown (b ∷ t) ≡ shown t
unfolding uncommented parentheses
blank_byte b t h = ⊎_elim (λ e. ap (λ (x : ℕ). shown (x ∷ t)) e) (λ e. ap (λ (x : ℕ). shown (x ∷ t)) e) h

line_byte : (b : ℕ) (t : List ℕ) → b ≡ 10 → shown (b ∷ t) ≡ shown t
unfolding uncommented parentheses
line_byte b t e = ap (λ (x : ℕ). shown (x ∷ t)) e

opening_byte : (b : ℕ) (t : List ℕ) → b ≡ 40 → shown (b ∷ t) ≡ 40 ∷ shown t
unfolding uncommented parentheses
opening_byte b t e = ap (λ (x : ℕ). shown (x ∷ t)) e

closing_byte : (b : ℕ) (t : List ℕ) → b ≡ 41 → shown (b ∷ t) ≡ 41 ∷ shown t
unfolding uncommented parentheses
closing_byte b t e = ap (λ (x : ℕ). shown (x ∷ t)) e

semicolon_byte : (b : ℕ) (t : List ℕ) → b ≡ 59 → shown (b ∷ t) ≡ parentheses (uncommented true t)
unfolding uncommented
semicolon_byte b t e = ap (λ (x : ℕ). shown (x ∷ t)) e

-- ---- runs

word_run : (w rest : List ℕ) → Every (λ b. is_word_byte b ≡ true) w → shown (w ++ rest) ≡ shown rest
word_run [] rest h = refl
word_run (b ∷ w) rest (Every.more hb h) = word_byte_lem b (w ++ rest) (word_of b hb) ∙ word_run w rest h

-- a byte that a comment may hold does not end it
comment_byte : (b : ℕ) (t : List ℕ) → is_comment_byte b ≡ true → uncommented true (b ∷ t) ≡ uncommented true t
unfolding uncommented
comment_byte b t h = go (eqb b 10) refl
  where
    go : (n : Bool) → eqb b 10 ≡ n → uncommented true (b ∷ t) ≡ uncommented true t
    go true e = absurd (true≢false (sym h ∙ ap is_comment_byte (eqb-true b 10 e) ∙ no_comment))
    go false e = rw e

comment_run : (c rest : List ℕ) → Every (λ b. is_comment_byte b ≡ true) c → begins is_comment_byte rest ≡ false → Every AllowedByte rest → uncommented true (c ++ rest) ≡ uncommented false rest
unfolding uncommented
comment_run [] [] h s a = refl
comment_run [] (b ∷ rest) h s (Every.more ab a) = ap (λ (x : ℕ). uncommented true (x ∷ rest)) (comment_ends b ab s) ∙ sym (ap (λ (x : ℕ). uncommented false (x ∷ rest)) (comment_ends b ab s))
comment_run (b ∷ c) rest (Every.more hb h) s a = comment_byte b (c ++ rest) hb ∙ comment_run c rest h s a

-- ---- pairs

pairs_append : (n m : ℕ) → pairs n ++ pairs m ≡ pairs (n + m)
unfolding pairs ascii
pairs_append zero m = let same : m ≡ 0 + m = omega arith in ap pairs same
pairs_append (suc n) m = let next : suc (n + m) ≡ suc n + m = omega arith in ap (λ (l : List ℕ). 40 ∷ 41 ∷ l) (pairs_append n m) ∙ ap pairs next

-- what follows pairs in pairs is pairs
pairs_off : (n m : ℕ) (l : List ℕ) → pairs n ++ l ≡ pairs m → (k : ℕ) × (l ≡ pairs k)
unfolding pairs ascii
pairs_off zero m l e = (m, e)
pairs_off (suc n) zero l e = absurd (cons≢nil e)
pairs_off (suc n) (suc m) l e = pairs_off n m l (tail-eq_of_cons-eq (tail-eq_of_cons-eq e))

-- ---- pieces

-- the ( that is still open
abbrev pending : Depth → List ℕ
pending outside = []
pending inside = 40 ∷ []

-- from the depth d on the text t shows n pairs, and then what rest shows from the depth d' on
record Passed (d : Depth) (t : List ℕ) (d' : Depth) (rest : List ℕ) : Type 0 where
  many : ℕ
  shows : pending d ++ shown t ≡ pairs many ++ (pending d' ++ shown rest)

-- none yet
quiet : {d d' : Depth} {t rest : List ℕ} → pending d ++ shown t ≡ pending d' ++ shown rest → Passed d t d' rest
unfolding pairs
quiet e = record { many = 0; shows = e }

piece_passed : {d d' : Depth} {t rest : List ℕ} {ws : List (List ℕ)} → Piece d t ws d' rest → Every AllowedByte rest → Passed d t d' rest
unfolding pairs ascii
piece_passed (a_blank {d = d} {b = b} {rest = rest} k) h = quiet (ap (λ (l : List ℕ). pending d ++ l) (blank_byte b rest (of_kind_lem b k)))
piece_passed (line_inside {b = b} {rest = rest} k) h = quiet (ap (λ (l : List ℕ). 40 ∷ l) (line_byte b rest (of_kind_lem b k)))
piece_passed (opens {b = b} {rest = rest} k) h = quiet (opening_byte b rest (of_kind_lem b k))
piece_passed (closes {b = b} {rest = rest} k) h = record { many = 1; shows = ap (λ (l : List ℕ). 40 ∷ l) (closing_byte b rest (of_kind_lem b k)) }
piece_passed (a_comment {d = d} {b = b} {t = t} {c = c} {rest = rest} k r) h =
    quiet
    (ap (λ (l : List ℕ). pending d ++ l) (semicolon_byte b t (of_kind_lem b k) ∙ ap (λ (l : List ℕ). parentheses (uncommented true l)) r.cut ∙ ap parentheses (comment_run c rest r.each r.longest h)))
piece_passed (a_word {d = d} {b = b} {w = w} {rest = rest} r) h = quiet (ap (λ (l : List ℕ). pending d ++ l) (ap shown r.cut ∙ word_run (b ∷ w) rest r.each))

-- ---- entries show pairs

words_shown : {d : Depth} {t : List ℕ} {ws : List (List ℕ)} → Words d t ws → (n : ℕ) × (pending d ++ shown t ≡ pairs n)
unfolding uncommented parentheses pairs
words_shown Words.at_end = (0, refl)
words_shown (Words.more p w e) =
    let a = piece_passed p (words_allowed w) in
    let b = words_shown w in
    (a.many + b.0, a.shows ∙ ap (λ (l : List ℕ). pairs a.many ++ l) b.1 ∙ pairs_append a.many b.0)

-- no comment goes on beyond a 10
uncommented_line : (o : Bool) (e u : List ℕ) → uncommented o (e ++ 10 ∷ u) ≡ uncommented o e ++ 10 ∷ uncommented false u
unfolding uncommented
uncommented_line true [] u = refl
uncommented_line false [] u = refl
uncommented_line o (b ∷ e) u = go (open_after o b) _ _ _ (uncommented_line (open_after o b) e u)
  where
    go : (x : Bool) (l m n : List ℕ) → l ≡ m ++ n → cond x l (b ∷ l) ≡ cond x m (b ∷ m) ++ n
    go true l m n q = q
    go false l m n q = ap (λ (l : List ℕ). b ∷ l) q

parentheses_append : (l m : List ℕ) → parentheses (l ++ m) ≡ parentheses l ++ parentheses m
unfolding parentheses
parentheses_append [] m = refl
parentheses_append (b ∷ l) m = go (eqb b 40 || eqb b 41) _ _ _ (parentheses_append l m)
  where
    go : (x : Bool) (l m n : List ℕ) → l ≡ m ++ n → cond x (b ∷ l) l ≡ cond x (b ∷ m) m ++ n
    go true l m n q = ap (λ (l : List ℕ). b ∷ l) q
    go false l m n q = q

shown_line : (e u : List ℕ) → shown (e ++ 10 ∷ u) ≡ shown e ++ shown u
unfolding parentheses
shown_line e u = ap parentheses (uncommented_line false e u) ∙ parentheses_append (uncommented false e) (10 ∷ uncommented false u)

entries_shown : {t : List ℕ} {es : List (List ℕ)} → Entries t es → (n : ℕ) × (shown t ≡ pairs n)
entries_shown (Entries.last w) = words_shown w
entries_shown (Entries.more {e = e} {u = u} q w c) =
    let a = words_shown w in
    let b = entries_shown c in
    (a.0 + b.0, ap shown q ∙ shown_line e u ∙ ap₂ ◌++◌ a.1 b.1 ∙ pairs_append a.0 b.0)

pub entries_whole : {t : List ℕ} {es : List (List ℕ)} → Entries t es → Whole t
entries_whole c = let s = entries_shown c in record { allowed = entries_allowed c; count = s.0; paired = s.1 }

-- ---- and what shows pairs has no fault of its shape, so that it can be cut

rest_allowed : {d d' : Depth} {t rest : List ℕ} {ws : List (List ℕ)} → Piece d t ws d' rest → Every AllowedByte t → Every AllowedByte rest
rest_allowed (a_blank k) (Every.more a h) = h
rest_allowed (line_inside k) (Every.more a h) = h
rest_allowed (opens k) (Every.more a h) = h
rest_allowed (closes k) (Every.more a h) = h
rest_allowed (a_comment {c = c} {rest = rest} k r) (Every.more a h) = every_right c rest (subst (Every AllowedByte) r.cut h)
rest_allowed (a_word {b = b} {w = w} {rest = rest} r) h = every_right (b ∷ w) rest (subst (Every AllowedByte) r.cut h)

no_fault : {d : Depth} {t : List ℕ} → ShapeFault d t → Every AllowedByte t → (n : ℕ) → pending d ++ shown t ≡ pairs n → ⊥
unfolding uncommented parentheses pairs ascii
no_fault ShapeFault.never_closed h zero e = cons≢nil e
no_fault ShapeFault.never_closed h (suc n) e = nil≢cons (tail-eq_of_cons-eq e)
no_fault (ShapeFault.nested {b = b} {t = t} k) h n e = two_open n (sym (ap (λ (l : List ℕ). 40 ∷ l) (opening_byte b t (of_kind_lem b k))) ∙ e)
  where
    two_open : (n : ℕ) → 40 ∷ 40 ∷ shown t ≡ pairs n → ⊥
    two_open zero e = cons≢nil e
    two_open (suc n) e = let z : ◌≡◌ {A = ℕ} 40 41 = head-eq_of_cons-eq (tail-eq_of_cons-eq e) in omega arith
no_fault (ShapeFault.stray {b = b} {t = t} k) h n e = closed n (sym (closing_byte b t (of_kind_lem b k)) ∙ e)
  where
    closed : (n : ℕ) → 41 ∷ shown t ≡ pairs n → ⊥
    closed zero e = cons≢nil e
    closed (suc n) e = let z : ◌≡◌ {A = ℕ} 41 40 = head-eq_of_cons-eq e in omega arith
no_fault (ShapeFault.not_allowed {b = b} k) (Every.more a h) n e = of_kind_lem b k a
no_fault (ShapeFault.later {d' = d'} {rest = rest} p f) h n e =
    let s = piece_passed p (rest_allowed p h) in
    let on = pairs_off s.many n (pending d' ++ shown rest) (sym s.shows ∙ e) in
    no_fault f (rest_allowed p h) on.0 on.1

CutOf : List ℕ → Type 0
CutOf t = (es : List (List ℕ)) × Entries t es

module _ (t : List ℕ) (h : Every AllowedByte t) (n : ℕ) (e : shown t ≡ pairs n)
    (shorter : (u : List ℕ) → length u < length t → Every AllowedByte u → (m : ℕ) → shown u ≡ pairs m → CutOf u) where
  cut_text : LaidOut outside t → CutOf t
  unfolding CutOf
  cut_text (to_end ws w) = (t ∷ [], Entries.last w)
  cut_text (to_line e' u ws q w) =
      let less : length u < length t = omega (arith, ap length q, length-append e' (10 ∷ u)) in
      let a = words_shown w in
      let on = pairs_off a.0 n (shown u) (ap (λ (l : List ℕ). l ++ shown u) (sym a.1) ∙ sym (shown_line e' u) ∙ sym (ap shown q) ∙ e) in
      let rest : Every AllowedByte (10 ∷ u) = every_right e' (10 ∷ u) (subst (Every AllowedByte) q h) in
      let c = shorter u less (every_right (10 ∷ []) u rest) on.0 on.1 in
      (e' ∷ c.0, Entries.more q w c.1)
  cut_text (to_fault f) = absurd (no_fault f h n e)

cut_within : (k : ℕ) (t : List ℕ) → length t ≤ k → Every AllowedByte t → (n : ℕ) → shown t ≡ pairs n → CutOf t
cut_within zero t short h n e = cut_text t h n e (λ u l. absurd (omega arith)) (laid_out outside t)
cut_within (suc k) t short h n e = cut_text t h n e (λ u l. cut_within k u (omega arith)) (laid_out outside t)

pub whole_entries : (t : List ℕ) → Whole t → (es : List (List ℕ)) × Entries t es
unfolding CutOf
whole_entries t w = cut_within (length t) t (omega arith) w.allowed w.count w.paired
