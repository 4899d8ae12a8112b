-- The functions of specs/Reader.antt find just what the definitions say of a text and of a call. Assumes nothing.
use Prim.Native.Nat.{ℕ, zero, suc, ◌+◌, ◌-◌, ◌≤◌, ◌<◌}
use mathlib.Core.Bool.{Bool, true, false, cond, true≢false}
use mathlib.Core.Path.{◌≡◌, refl, sym, ap, subst, ◌∙◌}
use mathlib.Core.Logic.{◌⊎◌, inl, inr}
use mathlib.Core.List.{List, [], ◌∷◌, ◌++◌, append_assoc}
use native.Mathlib.Omega.{arith}
use lib.Dec.{leb}
use lib.ListN.{length, length-append}
use borrow.Author.Tests.{le-leb, lt-leb, leb-true, leb-false}
use Rattle.base.specs.Refusal.{listing_long, entry_shape, row_short}
use Rattle.grammar.specs.Listing.{is_word_byte, begins, outside, Words, Entries, ResourceRecord, Records, Spells}
use Rattle.grammar.specs.Faults.{ShapeFault, Faulty, ended, Refused}
use Rattle.grammar.specs.Outcome.{Outcome, accepted, refused, Checked, Answered}
use Rattle.grammar.specs.Scan.{plain, scan}
use Rattle.grammar.proofs.ScanLaws.{words_scan, fault_scan, line_scan, line_begins, LaidOut, to_end, to_line, to_fault, laid_out}
use Rattle.grammar.specs.Content.{Content, nothing, one, fault, content_of}
use Rattle.grammar.proofs.ContentLaws.{fault_words, Judged, no_words, a_record, a_fault, judge, judged}
use Rattle.grammar.specs.Reader.{Verdict, right, wrong, alone, followed, by_ending, read_up_to, read, outcome, check, in_places, answer}

-- ---- one entry

entry_to_end : (n : ℕ) {t : List ℕ} {ws : List (List ℕ)} → Words outside t ws → read_up_to (suc n) t ≡ alone (content_of (begins is_word_byte t) ws)
unfolding read_up_to
entry_to_end n w = rw (words_scan w)

entry_to_line : (n : ℕ) {t e : List ℕ} (u : List ℕ) {ws : List (List ℕ)} → t ≡ e ++ 10 ∷ u → Words outside e ws
    → read_up_to (suc n) t ≡ followed (content_of (begins is_word_byte e) ws) (length e + 1) (read_up_to n u)
unfolding read_up_to
entry_to_line n {t} {e} u {ws} q w =
    let size : length (e ++ 10 ∷ u) - length u ≡ length e + 1 = omega (arith, length-append e (10 ∷ u)) in
    rw (q, line_scan u w, line_begins e u, size)

entry_to_fault : (n : ℕ) {t : List ℕ} → ShapeFault outside t → read_up_to (suc n) t ≡ wrong [] entry_shape 0
unfolding read_up_to
entry_to_fault n {t} f = ap (by_ending (read_up_to n) t (content_of (begins is_word_byte t) (scan plain outside t).words)) (fault_scan f)

-- ---- what the definitions give, the function finds

rest_shorter : {t : List ℕ} (e u : List ℕ) → t ≡ e ++ 10 ∷ u → length u < length t
rest_shorter e u q = omega (arith, ap length q, length-append e (10 ∷ u))

read_records : {t : List ℕ} {es : List (List ℕ)} {rs : List ResourceRecord} → Entries t es → Records es rs → (n : ℕ) → length t < n → read_up_to n t ≡ right rs
read_records c r zero h = absurd (omega arith)
read_records (Entries.last {e} w) (Records.no_record z Records.none) (suc n) h = entry_to_end n z ∙ ap alone (judged e nothing (no_words z) [] z)
read_records (Entries.last {e} w) (Records.a_record {r = r} z Records.none) (suc n) h =
    entry_to_end n z.words ∙ ap alone (judged e (one r) (a_record z) (z.owner ∷ z.after_owner) z.words)
read_records (Entries.more {e = e} {u = u} q w c) (Records.no_record z rs) (suc n) h =
    let k = rest_shorter e u q in
    entry_to_line n u q z ∙ rw (judged e nothing (no_words z) [] z, read_records c rs n (omega arith))
read_records (Entries.more {e = e} {u = u} q w c) (Records.a_record {r = r} z rs) (suc n) h =
    let k = rest_shorter e u q in
    entry_to_line n u q z.words ∙ rw (judged e (one r) (a_record z) (z.owner ∷ z.after_owner) z.words, read_records c rs n (omega arith))

faulty_read : {t : List ℕ} {k : ℕ} → Faulty t k → (n : ℕ) → read_up_to (suc n) t ≡ wrong [] k 0
faulty_read (Faulty.shape f) n = entry_to_fault n f
faulty_read (Faulty.last_entry {e} {n = k} f) n = let z = fault_words f in entry_to_end n z.words ∙ ap alone (judged e (fault k) (a_fault f) z.found z.words)
faulty_read (Faulty.ended_entry {e = e} u {n = k} q f) n =
    let z = fault_words f in entry_to_line n u q z.words ∙ ap (λ (c : Content). followed c (length e + 1) (read_up_to n u)) (judged e (fault k) (a_fault f) z.found z.words)

-- the text after an entry, and the offset in the whole
next_cut : {t : List ℕ} (e : List ℕ) (es : List (List ℕ)) (from : List ℕ) → t ≡ ended (e ∷ es) ++ from → t ≡ e ++ 10 ∷ (ended es ++ from)
unfolding ended
next_cut e es from q = q ∙ append_assoc e (10 ∷ ended es) from

next_offset : (e : List ℕ) (es : List (List ℕ)) → length e + 1 + length (ended es) ≡ length (ended (e ∷ es))
unfolding ended
next_offset e es = omega (arith, length-append e (10 ∷ ended es))

read_before : (es : List (List ℕ)) {rs : List ResourceRecord} {t from : List ℕ} {k : ℕ} → Records es rs → t ≡ ended es ++ from → Faulty from k
    → (n : ℕ) → length t < n → read_up_to n t ≡ wrong rs k (length (ended es))
unfolding ended
read_before es r q f zero h = absurd (omega arith)
read_before [] Records.none q f (suc n) h = ap (read_up_to (suc n)) q ∙ faulty_read f n
read_before (e ∷ es) {from = from} (Records.no_record z r) q f (suc n) h =
    let next = next_cut e es from q in
    let k = rest_shorter e (ended es ++ from) next in
    entry_to_line n (ended es ++ from) next z ∙ rw (judged e nothing (no_words z) [] z, read_before es r refl f n (omega arith), next_offset e es)
read_before (e ∷ es) {from = from} (Records.a_record {r = r₁} z r) q f (suc n) h =
    let next = next_cut e es from q in
    let k = rest_shorter e (ended es ++ from) next in
    entry_to_line n (ended es ++ from) next z.words
    ∙ rw (judged e (one r₁) (a_record z) (z.owner ∷ z.after_owner) z.words, read_before es r refl f n (omega arith), next_offset e es)

-- ---- what a text comes to, by the definitions

pub data Comes (t : List ℕ) : Verdict → Type 0 where
  spelled : {rs : List ResourceRecord} → Spells t rs → Comes t (right rs)
  faulted : {rs : List ResourceRecord} {n p : ℕ} → Refused t rs n p → Comes t (wrong rs n p)

comes_up_to : {t : List ℕ} {v : Verdict} → Comes t v → (n : ℕ) → length t < n → read_up_to n t ≡ v
comes_up_to (spelled s) n h = read_records s.cut s.records n h
comes_up_to (faulted {rs} {n = k} f) n h = read_before f.before f.records f.cut f.faulty n h ∙ ap (wrong rs k) (sym f.at)

-- ---- every text comes to what the function finds

comes_alone : {t : List ℕ} {c : Content} {ws : List (List ℕ)} → Words outside t ws → Judged t c → Comes t (alone c)
unfolding ended
comes_alone {t} w (no_words z) = spelled (record { entries = t ∷ []; cut = Entries.last w; records = Records.no_record z Records.none })
comes_alone {t} w (a_record z) = spelled (record { entries = t ∷ []; cut = Entries.last w; records = Records.a_record z Records.none })
comes_alone {t} w (a_fault f) = faulted (record { before = []; from = t; cut = refl; records = Records.none; faulty = Faulty.last_entry f; at = refl })

module _ {t : List ℕ} (e u : List ℕ) {ws : List (List ℕ)} (q : t ≡ e ++ 10 ∷ u) (w : Words outside e ws) where
  later_cut : (es : List (List ℕ)) (from : List ℕ) → u ≡ ended es ++ from → t ≡ ended (e ∷ es) ++ from
  unfolding ended
  later_cut es from k = q ∙ ap (λ (l : List ℕ). e ++ 10 ∷ l) k ∙ sym (append_assoc e (10 ∷ ended es) from)

  comes_followed : {c : Content} {v : Verdict} → Judged e c → Comes u v → Comes t (followed c (length e + 1) v)
  unfolding ended
  comes_followed (no_words z) (spelled s) =
      spelled (record { entries = e ∷ s.entries; cut = Entries.more q w s.cut; records = Records.no_record z s.records })
  comes_followed (no_words z) (faulted f) =
      faulted
      (record {
        before = e ∷ f.before;
        from = f.from;
        cut = later_cut f.before f.from f.cut;
        records = Records.no_record z f.records;
        faulty = f.faulty;
        at = ap (λ (k : ℕ). length e + 1 + k) f.at ∙ next_offset e f.before;
      })
  comes_followed (a_record z) (spelled s) =
      spelled (record { entries = e ∷ s.entries; cut = Entries.more q w s.cut; records = Records.a_record z s.records })
  comes_followed (a_record z) (faulted f) =
      faulted
      (record {
        before = e ∷ f.before;
        from = f.from;
        cut = later_cut f.before f.from f.cut;
        records = Records.a_record z f.records;
        faulty = f.faulty;
        at = ap (λ (k : ℕ). length e + 1 + k) f.at ∙ next_offset e f.before;
      })
  comes_followed (a_fault f) v =
      faulted (record { before = []; from = t; cut = refl; records = Records.none; faulty = Faulty.ended_entry u q f; at = refl })

comes_laid : (n : ℕ) (t : List ℕ) → ((u : List ℕ) → length u < length t → Comes u (read_up_to n u)) → LaidOut outside t → Comes t (read_up_to (suc n) t)
unfolding ended
comes_laid n t shorter (to_end ws w) = subst (Comes t) (sym (entry_to_end n w)) (comes_alone w (judge t ws w))
comes_laid n t shorter (to_line e u ws q w) =
    subst (Comes t) (sym (entry_to_line n u q w)) (comes_followed e u q w (judge e ws w) (shorter u (rest_shorter e u q)))
comes_laid n t shorter (to_fault f) =
    subst (Comes t) (sym (entry_to_fault n f))
    (faulted (record { before = []; from = t; cut = refl; records = Records.none; faulty = Faulty.shape f; at = refl }))

comes_within : (n : ℕ) (t : List ℕ) → length t < n → Comes t (read_up_to n t)
comes_within zero t h = absurd (omega arith)
comes_within (suc n) t h = comes_laid n t (λ u k. comes_within n u (omega arith)) (laid_out outside t)

-- the function says what a text comes to, and it comes to nothing else
pub comes : (t : List ℕ) → Comes t (read t)
unfolding read
comes t = comes_within (suc (length t)) t (omega arith)

pub comes_read : {t : List ℕ} {v : Verdict} → Comes t v → read t ≡ v
unfolding read
comes_read {t} c = comes_up_to c (suc (length t)) (omega arith)

-- ---- what a text comes to, by its first entry and the text after it

enough : (n : ℕ) (t : List ℕ) → length t < n → read_up_to n t ≡ read t
enough n t h = comes_up_to (comes t) n h

pub read_step : (t : List ℕ) → read t ≡ by_ending read t (content_of (begins is_word_byte t) (scan plain outside t).words) (scan plain outside t).ending
unfolding read
read_step t = go (laid_out outside t)
  where
    go : LaidOut outside t → read t ≡ by_ending read t (content_of (begins is_word_byte t) (scan plain outside t).words) (scan plain outside t).ending
    go (to_end ws w) = entry_to_end (length t) w ∙ rw (words_scan w)
    go (to_line e u ws q w) =
        entry_to_line (length t) u q w ∙ ap (followed (content_of (begins is_word_byte e) ws) (length e + 1)) (enough (length t) u (rest_shorter e u q))
        ∙ rw (q, line_scan u w, line_begins e u) (ap (λ (m : ℕ). followed (content_of (begins is_word_byte e) ws) m (read u)) (omega (arith, length-append e (10 ∷ u))))
    go (to_fault f) = entry_to_fault (length t) f ∙ rw (fault_scan f)

-- ---- so a text comes to one thing

records_of : Verdict → List ResourceRecord
records_of (right rs) = rs
records_of (wrong rs n p) = rs

number_of : Verdict → ℕ
number_of (right rs) = 0
number_of (wrong rs n p) = n

offset_of : Verdict → ℕ
offset_of (right rs) = 0
offset_of (wrong rs n p) = p

is_right : Verdict → Bool
is_right (right rs) = true
is_right (wrong rs n p) = false

module _ {t : List ℕ} where
  one_verdict : {v w : Verdict} → Comes t v → Comes t w → v ≡ w
  one_verdict c d = sym (comes_read c) ∙ comes_read d

  pub same_list : {rs qs : List ResourceRecord} → Spells t rs → Spells t qs → rs ≡ qs
  unfolding records_of
  same_list s r = ap records_of (one_verdict (spelled s) (spelled r))

  pub apart : {rs qs : List ResourceRecord} {n p : ℕ} → Spells t rs → Refused t qs n p → ⊥
  unfolding is_right
  apart s r = true≢false (ap is_right (one_verdict (spelled s) (faulted r)))

  module _ {rs qs : List ResourceRecord} {n m p q : ℕ} (r : Refused t rs n p) (s : Refused t qs m q) where
    pub same_number : n ≡ m
    unfolding number_of
    same_number = ap number_of (one_verdict (faulted r) (faulted s))

    pub same_offset : p ≡ q
    unfolding offset_of
    same_offset = ap offset_of (one_verdict (faulted r) (faulted s))

    pub same_before : rs ≡ qs
    unfolding records_of
    same_before = ap records_of (one_verdict (faulted r) (faulted s))

pub either : (t : List ℕ) → ((rs : List ResourceRecord) × Spells t rs) ⊎ ((rs : List ResourceRecord) × (n : ℕ) × (p : ℕ) × Refused t rs n p)
either t = go (comes t)
  where
    go : {v : Verdict} → Comes t v → ((rs : List ResourceRecord) × Spells t rs) ⊎ ((rs : List ResourceRecord) × (n : ℕ) × (p : ℕ) × Refused t rs n p)
    go (spelled {rs} s) = inl (rs, s)
    go (faulted {rs} {n} {p} r) = inr (rs, n, p, r)

-- ---- what a call answers

pub checked : {limit : ℕ} {t : List ℕ} {o : Outcome} → Checked limit t o → check limit t ≡ o
unfolding check
checked {limit} {t} (Checked.too_long h) = rw (lt-leb (length t) limit h)
checked {limit} {t} (Checked.faulty h f) = rw (le-leb (length t) limit h, comes_read (faulted f))
checked {limit} {t} (Checked.whole h s) = rw (le-leb (length t) limit h, comes_read (spelled s))

pub answered : {limit places : ℕ} {t : List ℕ} {o : Outcome} → Answered limit places t o → answer limit places t ≡ o
unfolding answer
answered (Answered.refused_first c) = rw (checked c)
answered {places = places} (Answered.short_row {rs} c h) = rw (checked c, lt-leb (length rs) places h)
answered {places = places} (Answered.in_row {rs} c h) = rw (checked c, le-leb (length rs) places h)

outcome_checked : (limit : ℕ) (t : List ℕ) → length t ≤ limit → {v : Verdict} → Comes t v → Checked limit t (outcome v)
outcome_checked limit t h (spelled s) = Checked.whole h s
outcome_checked limit t h (faulted f) = Checked.faulty h f

pub checks : (limit : ℕ) (t : List ℕ) → Checked limit t (check limit t)
unfolding check
checks limit t = go (leb (length t) limit) refl
  where
    go : (b : Bool) → leb (length t) limit ≡ b → Checked limit t (cond b (outcome (read t)) (refused listing_long 0))
    go true h = outcome_checked limit t (leb-true (length t) limit h) (comes t)
    go false h = Checked.too_long (leb-false (length t) limit h)

pub answers : (limit places : ℕ) (t : List ℕ) → Answered limit places t (answer limit places t)
unfolding answer
answers limit places t = go (check limit t) (checks limit t)
  where
    room : (rs : List ResourceRecord) → Checked limit t (accepted rs) → (b : Bool) → leb (length rs) places ≡ b → Answered limit places t (cond b (accepted rs) (refused row_short 0))
    room rs c true h = Answered.in_row c (leb-true (length rs) places h)
    room rs c false h = Answered.short_row c (leb-false (length rs) places h)

    go : (o : Outcome) → Checked limit t o → Answered limit places t (in_places places o)
    go (accepted rs) c = room rs c (leb (length rs) places) refl
    go (refused n p) c = Answered.refused_first c

-- what is accepted with a row is spelled, and has room
pub accepted_spells : {limit places : ℕ} {t : List ℕ} {rs : List ResourceRecord} → Answered limit places t (accepted rs) → Spells t rs × (length rs ≤ places)
accepted_spells (Answered.in_row (Checked.whole h s) room) = (s, room)
