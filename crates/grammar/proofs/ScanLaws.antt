-- The scan finds the words and the end that the definitions give to an entry, and every text has them. Assumes nothing.
use Prim.Native.Nat.{ℕ, zero, suc, ◌≤◌, ◌<◌}
use mathlib.Core.Bool.{Bool, true, false, true≢false, false≢true}
use mathlib.Core.Path.{◌≡◌, refl, sym, ap, ◌∙◌}
use mathlib.Core.List.{List, [], ◌∷◌, ◌++◌, append_assoc}
use native.Mathlib.Omega.{arith}
use lib.ListN.{length}
use Rattle.base.specs.Logic.{Every}
use Rattle.grammar.specs.Listing.{Kind, blank, line_end, opening, closing, semicolon, word_byte, not_allowed, kind_of, is_word_kind, is_comment_kind, is_word_byte, is_comment_byte, begins, LongestRun, Depth, outside, inside, Piece, a_blank, line_inside, opens, closes, a_comment, a_word, Words}
use Rattle.grammar.specs.Faults.{ShapeFault}
use Rattle.grammar.specs.Scan.{Mode, plain, comment, letter, at_end, at_line, at_fault, Laid, act, depth_after, mode_after, put, scan, preceded}
use Rattle.grammar.proofs.BytesLaws.{of_kind_lem}

-- ---- one byte

pub byte_scan : (m : Mode) (d : Depth) (b : ℕ) (t : List ℕ) (k : Kind) → kind_of b ≡ k → scan m d (b ∷ t) ≡ put (act m d k) b t (scan (mode_after m k) (depth_after m d k) t)
unfolding scan
byte_scan m d b t k e = rw e

-- in a comment a byte that may stand there is passed over
comment_byte : (d : Depth) (b : ℕ) (t : List ℕ) (k : Kind) → kind_of b ≡ k → is_comment_kind k ≡ true → scan comment d (b ∷ t) ≡ scan comment d t
comment_byte d b t word_byte e c = byte_scan comment d b t word_byte e
comment_byte d b t blank e c = byte_scan comment d b t blank e
comment_byte d b t line_end e c = absurd (false≢true c)
comment_byte d b t opening e c = byte_scan comment d b t opening e
comment_byte d b t closing e c = byte_scan comment d b t closing e
comment_byte d b t semicolon e c = byte_scan comment d b t semicolon e
comment_byte d b t not_allowed e c = absurd (false≢true c)

-- at any other byte the comment is over
comment_over_byte : (d : Depth) (b : ℕ) (t : List ℕ) (k : Kind) → kind_of b ≡ k → is_comment_kind k ≡ false → scan comment d (b ∷ t) ≡ scan plain d (b ∷ t)
comment_over_byte d b t word_byte e c = absurd (true≢false c)
comment_over_byte d b t blank e c = absurd (true≢false c)
comment_over_byte d b t line_end e c = byte_scan comment d b t line_end e ∙ sym (byte_scan plain d b t line_end e)
comment_over_byte d b t opening e c = absurd (true≢false c)
comment_over_byte d b t closing e c = absurd (true≢false c)
comment_over_byte d b t semicolon e c = absurd (true≢false c)
comment_over_byte d b t not_allowed e c = byte_scan comment d b t not_allowed e ∙ sym (byte_scan plain d b t not_allowed e)

comment_over : (d : Depth) (t : List ℕ) → begins is_comment_byte t ≡ false → scan comment d t ≡ scan plain d t
unfolding scan
comment_over d [] s = refl
comment_over d (b ∷ t) s = comment_over_byte d b t (kind_of b) refl s

comment_run : (d : Depth) (c rest : List ℕ) → Every (λ b. is_comment_byte b ≡ true) c → begins is_comment_byte rest ≡ false → scan comment d (c ++ rest) ≡ scan plain d rest
comment_run d [] rest h s = comment_over d rest s
comment_run d (b ∷ c) rest (Every.more hb h) s = comment_byte d b (c ++ rest) (kind_of b) refl hb ∙ comment_run d c rest h s

word_byte_lem : (d : Depth) (b : ℕ) (t : List ℕ) (k : Kind) → kind_of b ≡ k → is_word_kind k ≡ true → scan plain d (b ∷ t) ≡ put letter b t (scan plain d t)
word_byte_lem d b t word_byte e c = byte_scan plain d b t word_byte e
word_byte_lem d b t blank e c = absurd (false≢true c)
word_byte_lem d b t line_end e c = absurd (false≢true c)
word_byte_lem d b t opening e c = absurd (false≢true c)
word_byte_lem d b t closing e c = absurd (false≢true c)
word_byte_lem d b t semicolon e c = absurd (false≢true c)
word_byte_lem d b t not_allowed e c = absurd (false≢true c)

-- ---- one piece

word_run : (d : Depth) (b : ℕ) (w rest : List ℕ) → Every (λ b. is_word_byte b ≡ true) (b ∷ w) → begins is_word_byte rest ≡ false
    → scan plain d (b ∷ w ++ rest) ≡ preceded ((b ∷ w) ∷ []) (scan plain d rest)
word_run d b [] rest (Every.more hb h) s = word_byte_lem d b rest (kind_of b) refl hb ∙ rw s
word_run d b (y ∷ w) rest (Every.more hb (Every.more hy h)) s =
    word_byte_lem d b (y ∷ w ++ rest) (kind_of b) refl hb ∙ rw (word_run d y w rest (Every.more hy h) s, hy)

pub piece_scan : {d d' : Depth} {t rest : List ℕ} {ws : List (List ℕ)} → Piece d t ws d' rest → scan plain d t ≡ preceded ws (scan plain d' rest)
piece_scan (a_blank {b = b} {rest} k) = byte_scan plain _ b rest _ k
piece_scan (line_inside {b = b} {rest} k) = byte_scan plain _ b rest _ k
piece_scan (opens {b = b} {rest} k) = byte_scan plain _ b rest _ k
piece_scan (closes {b = b} {rest} k) = byte_scan plain _ b rest _ k
piece_scan (a_comment {d} {b} {t} {c} {rest} k r) = byte_scan plain d b t _ k ∙ rw r.cut (comment_run d c rest r.each r.longest)
piece_scan (a_word {d} {b} {t} {w} {rest} r) = rw r.cut (word_run d b w rest r.each r.longest)

-- ---- what the definitions give, the scan finds

pub words_scan : {d : Depth} {t : List ℕ} {ws : List (List ℕ)} → Words d t ws → scan plain d t ≡ record { words = ws; ending = at_end }
unfolding scan
words_scan Words.at_end = refl
words_scan (Words.more {vs = vs} p w e) = piece_scan p ∙ ap (preceded vs) (words_scan w) ∙ rw e

pub one_words : {d : Depth} {t : List ℕ} {ws ws' : List (List ℕ)} → Words d t ws → Words d t ws' → ws ≡ ws'
one_words w w' = ap (λ (l : Laid). l.words) (sym (words_scan w) ∙ words_scan w')

pub fault_scan : {d : Depth} {t : List ℕ} → ShapeFault d t → (scan plain d t).ending ≡ at_fault
unfolding scan
fault_scan ShapeFault.never_closed = refl
fault_scan (ShapeFault.nested {b} {t} k) = ap (λ (l : Laid). l.ending) (byte_scan plain inside b t _ k)
fault_scan (ShapeFault.stray {b} {t} k) = ap (λ (l : Laid). l.ending) (byte_scan plain outside b t _ k)
fault_scan (ShapeFault.not_allowed {b = b} {t} k) = ap (λ (l : Laid). l.ending) (byte_scan plain _ b t _ k)
fault_scan (ShapeFault.later p f) = ap (λ (l : Laid). l.ending) (piece_scan p) ∙ fault_scan f

-- ---- an entry's text alone, and with a 10 and a text after it

-- a byte that does not pass ends a run where the text ended it
module _ (p : ℕ → Bool) (x : ℕ) (u : List ℕ) (stops : p x ≡ false) where
  begins_on : (e : List ℕ) → begins p e ≡ false → begins p (e ++ x ∷ u) ≡ false
  begins_on [] s = stops
  begins_on (y ∷ e) s = s

  begins_off : (e : List ℕ) → begins p (e ++ x ∷ u) ≡ false → begins p e ≡ false
  begins_off [] s = refl
  begins_off (y ∷ e) s = s

  run_on : {t w rest : List ℕ} → LongestRun p t w rest → LongestRun p (t ++ x ∷ u) w (rest ++ x ∷ u)
  run_on {w = w} {rest} r =
      record { cut = ap (λ (l : List ℕ). l ++ x ∷ u) r.cut ∙ append_assoc w rest (x ∷ u); each = r.each; longest = begins_on rest r.longest }

  run_off : {t w rest : List ℕ} (e : List ℕ) → rest ≡ e ++ x ∷ u → LongestRun p t w rest → LongestRun p (w ++ e) w e
  run_off e q r = record { cut = refl; each = r.each; longest = begins_off e (ap (begins p) (sym q) ∙ r.longest) }

  run_cut : {t w rest : List ℕ} (e : List ℕ) → rest ≡ e ++ x ∷ u → LongestRun p t w rest → t ≡ (w ++ e) ++ x ∷ u
  run_cut {w = w} e q r = r.cut ∙ ap (λ (l : List ℕ). w ++ l) q ∙ sym (append_assoc w e (x ∷ u))

-- 10 is the one byte that ends a line
line_kind : kind_of 10 ≡ line_end
unfolding kind_of
line_kind = refl

pub no_comment : is_comment_byte 10 ≡ false
no_comment = ap is_comment_kind line_kind

no_word : is_word_byte 10 ≡ false
no_word = ap is_word_kind line_kind

piece_on : {d d' : Depth} {t rest : List ℕ} {ws : List (List ℕ)} (u : List ℕ) → Piece d t ws d' rest → Piece d (t ++ 10 ∷ u) ws d' (rest ++ 10 ∷ u)
piece_on u (a_blank k) = a_blank k
piece_on u (line_inside k) = line_inside k
piece_on u (opens k) = opens k
piece_on u (closes k) = closes k
piece_on u (a_comment k r) = a_comment k (run_on is_comment_byte 10 u no_comment r)
piece_on u (a_word r) = a_word (run_on is_word_byte 10 u no_word r)

pub line_scan : {d : Depth} {e : List ℕ} {ws : List (List ℕ)} (u : List ℕ) → Words d e ws → scan plain d (e ++ 10 ∷ u) ≡ record { words = ws; ending = at_line u }
line_scan u Words.at_end = byte_scan plain outside 10 u line_end line_kind
line_scan u (Words.more {vs = vs} p w e) = piece_scan (piece_on u p) ∙ ap (preceded vs) (line_scan u w) ∙ rw e

-- an entry begins as it does with a 10 after it
pub line_begins : (e u : List ℕ) → begins is_word_byte (e ++ 10 ∷ u) ≡ begins is_word_byte e
line_begins [] u = no_word
line_begins (b ∷ e) u = refl

-- ---- every text begins with an entry: the whole text, or an entry and a 10, or one with a fault of its shape

pub data LaidOut (d : Depth) (t : List ℕ) : Type 0 where
  to_end : (ws : List (List ℕ)) → Words d t ws → LaidOut d t
  to_line : (e u : List ℕ) (ws : List (List ℕ)) → t ≡ e ++ 10 ∷ u → Words d e ws → LaidOut d t
  to_fault : ShapeFault d t → LaidOut d t

-- a piece before a 10 is a piece of the entry's text alone
record Shortened (d : Depth) (t : List ℕ) (ws : List (List ℕ)) (d' : Depth) (e u : List ℕ) : Type 0 where
  text : List ℕ
  cut : t ≡ text ++ 10 ∷ u
  piece : Piece d text ws d' e

piece_off : {d d' : Depth} {t rest : List ℕ} {ws : List (List ℕ)} (e u : List ℕ) → rest ≡ e ++ 10 ∷ u → Piece d t ws d' rest → Shortened d t ws d' e u
piece_off e u q (a_blank {b = b} k) = record { text = b ∷ e; cut = ap (λ (l : List ℕ). b ∷ l) q; piece = a_blank k }
piece_off e u q (line_inside {b} k) = record { text = b ∷ e; cut = ap (λ (l : List ℕ). b ∷ l) q; piece = line_inside k }
piece_off e u q (opens {b} k) = record { text = b ∷ e; cut = ap (λ (l : List ℕ). b ∷ l) q; piece = opens k }
piece_off e u q (closes {b} k) = record { text = b ∷ e; cut = ap (λ (l : List ℕ). b ∷ l) q; piece = closes k }
piece_off e u q (a_comment {b = b} {c = c} k r) =
    record {
      text = b ∷ c ++ e;
      cut = ap (λ (l : List ℕ). b ∷ l) (run_cut is_comment_byte 10 u no_comment e q r);
      piece = a_comment k (run_off is_comment_byte 10 u no_comment e q r);
    }
piece_off e u q (a_word {b = b} {w = w} r) =
    record { text = (b ∷ w) ++ e; cut = run_cut is_word_byte 10 u no_word e q r; piece = a_word (run_off is_word_byte 10 u no_word e q r) }

piece_before : {d d' : Depth} {t rest : List ℕ} {vs : List (List ℕ)} → Piece d t vs d' rest → LaidOut d' rest → LaidOut d t
piece_before {vs = vs} p (to_end ws w) = to_end (vs ++ ws) (Words.more p w refl)
piece_before {vs = vs} p (to_line e u ws q w) = let s = piece_off e u q p in to_line s.text u (vs ++ ws) s.cut (Words.more s.piece w refl)
piece_before p (to_fault f) = to_fault (ShapeFault.later p f)

-- every text begins with a longest run
record Run (p : ℕ → Bool) (t : List ℕ) : Type 0 where
  run : List ℕ
  rest : List ℕ
  is : LongestRun p t run rest
  shorter : length rest ≤ length t

run_more : (p : ℕ → Bool) (b : ℕ) {t w rest : List ℕ} → p b ≡ true → LongestRun p t w rest → LongestRun p (b ∷ t) (b ∷ w) rest
run_more p b h r = record { cut = ap (λ (l : List ℕ). b ∷ l) r.cut; each = Every.more h r.each; longest = r.longest }

longest_run : (p : ℕ → Bool) (t : List ℕ) → Run p t
longest_run p [] = record { run = []; rest = []; is = record { cut = refl; each = Every.none; longest = refl }; shorter = omega arith }
longest_run p (b ∷ t) = go (p b) refl (longest_run p t)
  where
    go : (c : Bool) → p b ≡ c → Run p t → Run p (b ∷ t)
    go true h r = record { run = b ∷ r.run; rest = r.rest; is = run_more p b h r.is; shorter = omega (arith, r.shorter) }
    go false h r = record { run = []; rest = b ∷ t; is = record { cut = refl; each = Every.none; longest = h }; shorter = omega arith }

module _ (b : ℕ) (t : List ℕ) (shorter : (d : Depth) (u : List ℕ) → length u ≤ length t → LaidOut d u) where
  laid_byte : (d : Depth) (k : Kind) → kind_of b ≡ k → LaidOut d (b ∷ t)
  laid_byte d word_byte e =
      let r = longest_run is_word_byte t in piece_before (a_word (run_more is_word_byte b (ap is_word_kind e) r.is)) (shorter d r.rest r.shorter)
  laid_byte d blank e = piece_before (a_blank e) (shorter d t (omega arith))
  laid_byte outside line_end e = to_line [] t [] (ap (λ (x : ℕ). x ∷ t) (of_kind_lem b e)) Words.at_end
  laid_byte inside line_end e = piece_before (line_inside e) (shorter inside t (omega arith))
  laid_byte outside opening e = piece_before (opens e) (shorter inside t (omega arith))
  laid_byte inside opening e = to_fault (ShapeFault.nested e)
  laid_byte outside closing e = to_fault (ShapeFault.stray e)
  laid_byte inside closing e = piece_before (closes e) (shorter outside t (omega arith))
  laid_byte d semicolon e = let r = longest_run is_comment_byte t in piece_before (a_comment e r.is) (shorter d r.rest r.shorter)
  laid_byte d not_allowed e = to_fault (ShapeFault.not_allowed e)

laid_text : (d : Depth) (t : List ℕ) → ((d : Depth) (u : List ℕ) → length u < length t → LaidOut d u) → LaidOut d t
laid_text outside [] shorter = to_end [] Words.at_end
laid_text inside [] shorter = to_fault ShapeFault.never_closed
laid_text d (b ∷ t) shorter = laid_byte b t (λ d u h. shorter d u (omega arith)) d (kind_of b) refl

laid_within : (n : ℕ) (d : Depth) (t : List ℕ) → length t ≤ n → LaidOut d t
laid_within zero d t h = laid_text d t (λ d u l. absurd (omega arith))
laid_within (suc n) d t h = laid_text d t (λ d u l. laid_within n d u (omega arith))

pub laid_out : (d : Depth) (t : List ℕ) → LaidOut d t
laid_out d t = laid_within (length t) d t (omega arith)
