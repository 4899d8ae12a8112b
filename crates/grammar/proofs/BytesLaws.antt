-- Which byte each kind is, and that entries have allowed bytes only. Assumes nothing.
use Prim.Native.Nat.{ℕ, ◌≤◌}
use mathlib.Core.Bool.{Bool, true, false, cond, ◌&&◌, ◌||◌, true≢false, false≢true}
use mathlib.Core.Path.{◌≡◌, refl, sym, subst, ◌∙◌}
use mathlib.Core.Logic.{◌⊎◌, inl, inr, ⊎_elim}
use mathlib.Core.List.{List, [], ◌∷◌, ◌++◌}
use native.Mathlib.Omega.{arith}
use lib.Dec.{leb, eqb}
use borrow.Author.Tests.{leb-true, eqb-true, eqb-false}
use Rattle.base.specs.Logic.{Every}
use Rattle.base.proofs.Lists.{every_append, every_right, every_by}
use Rattle.base.proofs.Tests.{and_left, and_right, within}
use Rattle.grammar.specs.Listing.{Kind, blank, line_end, opening, closing, semicolon, word_byte, not_allowed, is_visible, kind_of, is_word_kind, is_comment_kind, is_word_byte, is_comment_byte, begins, LongestRun, Depth, Piece, a_blank, line_inside, opens, closes, a_comment, a_word, Words, Entries}
use Rattle.grammar.specs.Whole.{AllowedByte, tab, printable}

-- ---- one byte

-- what a byte of each kind is
abbrev pub Of : Kind → ℕ → Type 0
Of blank b = (b ≡ 9) ⊎ (b ≡ 32)
Of line_end b = b ≡ 10
Of opening b = b ≡ 40
Of closing b = b ≡ 41
Of semicolon b = b ≡ 59
Of word_byte b = (is_visible b ≡ true) × (eqb b 40 ≡ false) × (eqb b 41 ≡ false) × (eqb b 59 ≡ false)
Of not_allowed b = AllowedByte b → ⊥

-- a byte is allowed if it is 9, 10, 32 or a visible one, and only then
not_allowed_lem : (b : ℕ) → eqb b 9 ≡ false → eqb b 32 ≡ false → eqb b 10 ≡ false → is_visible b ≡ false → AllowedByte b → ⊥
unfolding is_visible
not_allowed_lem b t s n v (tab e) = eqb-false b 9 t e
not_allowed_lem b t s n v (AllowedByte.line_end e) = eqb-false b 10 n e
not_allowed_lem b t s n v (printable low high) = true≢false (sym (within _ b _ (let other = eqb-false b 32 s in omega arith) (omega arith)) ∙ v)

byte_of : (b : ℕ) → Of (kind_of b) b
unfolding kind_of
byte_of b = go (eqb b 9) refl (eqb b 32) refl (eqb b 10) refl (eqb b 40) refl (eqb b 41) refl (eqb b 59) refl (is_visible b) refl
  where
    go : (t : Bool) → eqb b 9 ≡ t → (s : Bool) → eqb b 32 ≡ s → (n : Bool) → eqb b 10 ≡ n → (o : Bool) → eqb b 40 ≡ o → (c : Bool) → eqb b 41 ≡ c → (m : Bool) → eqb b 59 ≡ m
        → (v : Bool) → is_visible b ≡ v → Of (cond (t || s) blank (cond n line_end (cond o opening (cond c closing (cond m semicolon (cond v word_byte not_allowed)))))) b
    go true te s se n ne o oe c ce m me v ve = inl (eqb-true b 9 te)
    go false te true se n ne o oe c ce m me v ve = inr (eqb-true b 32 se)
    go false te false se true ne o oe c ce m me v ve = eqb-true b 10 ne
    go false te false se false ne true oe c ce m me v ve = eqb-true b 40 oe
    go false te false se false ne false oe true ce m me v ve = eqb-true b 41 ce
    go false te false se false ne false oe false ce true me v ve = eqb-true b 59 me
    go false te false se false ne false oe false ce false me true ve = (ve, oe, ce, me)
    go false te false se false ne false oe false ce false me false ve = not_allowed_lem b te se ne ve

pub of_kind_lem : (b : ℕ) {k : Kind} → kind_of b ≡ k → Of k b
of_kind_lem b e = subst (λ (k : Kind). Of k b) e (byte_of b)

-- ---- which kinds are allowed

bounds : (low b high : ℕ) → (leb low b && leb b high) ≡ true → (low ≤ b) × (b ≤ high)
bounds low b high v = (leb-true low b (and_left (leb low b) (leb b high) v), leb-true b high (and_right (leb low b) (leb b high) v))

visible_allowed : (b : ℕ) → is_visible b ≡ true → AllowedByte b
unfolding is_visible
visible_allowed b v = let h = bounds _ b _ v in printable (omega arith) (omega arith)

known_allowed : (b n : ℕ) → b ≡ n → 32 ≤ n → n ≤ 126 → AllowedByte b
known_allowed b n e low high = printable (omega arith) (omega arith)

blank_allowed : (b : ℕ) → Of blank b → AllowedByte b
blank_allowed b h = ⊎_elim (λ e. tab e) (λ e. known_allowed b 32 e (omega arith) (omega arith)) h

comment_allowed : (b : ℕ) → is_comment_byte b ≡ true → AllowedByte b
comment_allowed b h = go (kind_of b) (byte_of b) h
  where
    go : (k : Kind) → Of k b → is_comment_kind k ≡ true → AllowedByte b
    go blank o h = blank_allowed b o
    go line_end o h = absurd (false≢true h)
    go opening o h = known_allowed b 40 o (omega arith) (omega arith)
    go closing o h = known_allowed b 41 o (omega arith) (omega arith)
    go semicolon o h = known_allowed b 59 o (omega arith) (omega arith)
    go word_byte o h = visible_allowed b o.0
    go not_allowed o h = absurd (false≢true h)

-- and of the allowed bytes a comment may hold all but 10
pub comment_ends : (b : ℕ) → AllowedByte b → is_comment_byte b ≡ false → b ≡ 10
comment_ends b a h = go (kind_of b) (byte_of b) h
  where
    go : (k : Kind) → Of k b → is_comment_kind k ≡ false → b ≡ 10
    go blank o h = absurd (true≢false h)
    go line_end o h = o
    go opening o h = absurd (true≢false h)
    go closing o h = absurd (true≢false h)
    go semicolon o h = absurd (true≢false h)
    go word_byte o h = absurd (true≢false h)
    go not_allowed o h = absurd (o a)

-- the bytes of words are some of those that a comment may hold
pub word_of : (b : ℕ) → is_word_byte b ≡ true → Of word_byte b
word_of b h = go (kind_of b) (byte_of b) h
  where
    go : (k : Kind) → Of k b → is_word_kind k ≡ true → Of word_byte b
    go blank o h = absurd (false≢true h)
    go line_end o h = absurd (false≢true h)
    go opening o h = absurd (false≢true h)
    go closing o h = absurd (false≢true h)
    go semicolon o h = absurd (false≢true h)
    go word_byte o h = o
    go not_allowed o h = absurd (false≢true h)

-- ---- a whole text

run_allowed : (p : ℕ → Bool) → ((b : ℕ) → p b ≡ true → AllowedByte b) → {t w rest : List ℕ} → LongestRun p t w rest → Every AllowedByte rest → Every AllowedByte t
run_allowed p each {w = w} {rest} r h = subst (Every AllowedByte) (sym r.cut) (every_append w rest (every_by each r.each) h)

pub piece_allowed : {d d' : Depth} {t rest : List ℕ} {ws : List (List ℕ)} → Piece d t ws d' rest → Every AllowedByte rest → Every AllowedByte t
piece_allowed (a_blank {b = b} k) h = Every.more (blank_allowed b (of_kind_lem b k)) h
piece_allowed (line_inside {b = b} k) h = Every.more (AllowedByte.line_end (of_kind_lem b k)) h
piece_allowed (opens {b = b} k) h = Every.more (known_allowed b 40 (of_kind_lem b k) (omega arith) (omega arith)) h
piece_allowed (closes {b = b} k) h = Every.more (known_allowed b 41 (of_kind_lem b k) (omega arith) (omega arith)) h
piece_allowed (a_comment {b = b} k r) h = Every.more (known_allowed b 59 (of_kind_lem b k) (omega arith) (omega arith)) (run_allowed is_comment_byte comment_allowed r h)
piece_allowed (a_word r) h = run_allowed is_word_byte (λ b w. visible_allowed b (word_of b w).0) r h

pub words_allowed : {d : Depth} {t : List ℕ} {ws : List (List ℕ)} → Words d t ws → Every AllowedByte t
words_allowed Words.at_end = Every.none
words_allowed (Words.more p w e) = piece_allowed p (words_allowed w)

pub entries_allowed : {t : List ℕ} {es : List (List ℕ)} → Entries t es → Every AllowedByte t
entries_allowed (Entries.last w) = words_allowed w
entries_allowed (Entries.more {e = e} {u = u} q w c) =
    subst (Every AllowedByte) (sym q) (every_append e (10 ∷ u) (words_allowed w) (Every.more (AllowedByte.line_end refl) (entries_allowed c)))
