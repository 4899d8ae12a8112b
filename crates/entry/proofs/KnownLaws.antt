-- What callers know of an entry that was read: its text, and what the text comes to from it on (grammar, specs/Reader.antt, `read`). No promise cites it.
-- Assumes nothing.
use Prim.Native.Nat.{ℕ, ◌+◌, ◌-◌, ◌≤◌, ◌<◌}
use mathlib.Core.Bool.{true}
use mathlib.Core.Path.{◌≡◌, refl, sym, ap, ap₂, subst, ◌∙◌}
use mathlib.Core.List.{List, [], ◌∷◌, ◌++◌}
use native.Mathlib.Omega.{arith}
use lib.ListN.{length, drop, length-drop, length-append, drop_of_length-le}
use lib.Seq.{drop-drop, drop-append-add}
use Rattle.base.specs.Refusal.{entry_shape}
use Rattle.grammar.specs.Listing.{is_word_byte, begins, outside, Words, ResourceRecord, RecordEntry}
use Rattle.grammar.specs.Scan.{plain, at_end, at_line, at_fault, Laid, scan}
use Rattle.grammar.specs.Content as words
use Rattle.grammar.specs.Content.{nothing, one, fault, content_of}
use Rattle.grammar.specs.Reader.{right, wrong, after, shifted, alone, followed, by_ending, read}
use Rattle.grammar.proofs.ScanLaws.{words_scan, fault_scan, line_scan, line_begins, LaidOut, to_end, to_line, to_fault, laid_out}
use Rattle.grammar.proofs.ContentLaws.{Judged, no_words, a_record, a_fault, judge}
use Rattle.grammar.proofs.ReaderLaws.{read_step}
use Rattle.entry.specs.Held.{held, empty_record}
use Rattle.entry.specs.EntryText.{EntryText}
use Rattle.entry.specs.EntryAt.{nothing_before, record_before, fault_before, by_content, entry_at}
use Rattle.entry.specs.declared.Record.{Record}
use Rattle.entry.specs.declared.Content.{Content}
use Rattle.entry.specs.declared.Content.TheVariants
use Rattle.entry.specs.declared.Entry.{Entry}
use Rattle.entry.proofs.EntryLaws.{ends, content, by_parts}

-- what the text t comes to from at on, by the content of the entry that begins there, with its record, and by the text after it; the entry's text, with no
-- words or with those of the record; and that a record's first byte is a word's, the owner's
abbrev pub ContentIs : List ℕ → ℕ → Content → Record → ℕ → Type 0
ContentIs t at TheVariants.Nothing r next =
    (r ≡ empty_record) × (read (drop at t) ≡ shifted (next - at) (read (drop next t))) × (e : List ℕ) × EntryText t at e next × Words outside e []
ContentIs t at TheVariants.Record r next =
    (rr : ResourceRecord) × (r ≡ held rr) × (read (drop at t) ≡ after rr (shifted (next - at) (read (drop next t)))) × (begins is_word_byte (drop at t) ≡ true)
    × (e : List ℕ) × EntryText t at e next × RecordEntry e rr
ContentIs t at (TheVariants.Fault n) r next = (r ≡ empty_record) × (next ≡ length t) × (read (drop at t) ≡ wrong [] n 0)

-- the entry e begins at at, and ends before the next one
pub record EntryIs (t : List ℕ) (at : ℕ) (e : Entry) : Type 0 where
  pub on : at < e.next
  pub within : e.next ≤ length t
  pub content : ContentIs t at e.content e.«record» e.next

pub content_is : (t : List ℕ) (at : ℕ) (e : Entry) (c : Content) → EntryIs t at e → e.content ≡ c → ContentIs t at c e.«record» e.next
content_is t at e c h q = subst (λ (x : Content). ContentIs t at x e.«record» e.next) q h.content

-- ---- the text from the entry on, by the entry's end

-- no bytes come to no records
pub empty : read [] ≡ right []
empty = read_step [] ∙ (unfold scan content_of in refl)

alone_followed : (c : words.Content) (m : ℕ) → alone c ≡ followed c m (right [])
alone_followed nothing m = refl
alone_followed (one r) m = refl
alone_followed (fault n) m = refl

begins_as : {t e : List ℕ} {at next : ℕ} → EntryText t at e next → begins is_word_byte (drop at t) ≡ begins is_word_byte e
begins_as (EntryText.last here cut) = ap (begins is_word_byte) cut
begins_as {t} {e} {next = next} (EntryText.ended cut within) = ap (begins is_word_byte) cut ∙ line_begins e (drop next t)

module _ (t : List ℕ) (at : ℕ) (some : at < length t) where
  -- an entry with the text e, which comes to c
  up_to : (next : ℕ) → at < next → next ≤ length t → (e : List ℕ) → EntryText t at e next → {c : words.Content} → Judged e c
      → read (drop at t) ≡ followed c (next - at) (read (drop next t)) → EntryIs t at (by_content (length t) c next)
  unfolding nothing_before record_before fault_before
  up_to next on within e x (no_words w) q = record { on = on; within = within; content = (refl, q, e, x, w) }
  up_to next on within e x (a_record {r} z) q = record { on = on; within = within; content = (r, refl, q, begins_as x ∙ z.first, e, x, z) }
  up_to next on within e x (a_fault f) q = record { on = some; within = omega arith; content = (refl, refl, q) }

  misshapen : ends t at ≡ at_fault → EntryIs t at (fault_before entry_shape (length t))
  unfolding fault_before
  misshapen q = record { on = some; within = omega arith; content = (refl, refl, read_step (drop at t) ∙ ap (by_ending read (drop at t) (content t at)) q) }

  -- the entry has the words ws, and ends with the text
  module _ (ws : List (List ℕ)) (w : Words outside (drop at t) ws) where
    with_text : EntryIs t at (entry_at t at)
    with_text =
        let c : content t at ≡ content_of (begins is_word_byte (drop at t)) ws = ap (λ (l : Laid). content_of (begins is_word_byte (drop at t)) l.words) (words_scan w) in
        let x : ends t at ≡ at_end = ap (λ (l : Laid). l.ending) (words_scan w) in
        let came = content_of (begins is_word_byte (drop at t)) ws in
        subst (EntryIs t at) (by_parts t at came at_end c x)
        (up_to (length t) some (omega arith) (drop at t) (EntryText.last (omega arith) refl) (judge (drop at t) ws w)
        (read_step (drop at t) ∙ ap₂ (by_ending read (drop at t)) c x ∙ alone_followed came (length t - at)
        ∙ ap (followed came (length t - at)) (sym (ap read (drop_of_length-le t {i = length t} (omega arith)) ∙ empty))))

  -- it has the text e with the words ws, a 10 ends it, and u is the text after that
  module _ (e u : List ℕ) (ws : List (List ℕ)) (cut : drop at t ≡ e ++ 10 ∷ u) (w : Words outside e ws) where
    abbrev next : ℕ
    next = length t - length u

    long : at + (length e + 1) + length u ≡ length t
    long = omega (arith, ap length cut, length-append e (10 ∷ u), length-drop at t)

    rest : drop next t ≡ u
    rest =
        let place : next ≡ at + (length e + 1) = omega (arith, long) in
        ap (λ (i : ℕ). drop i t) place ∙ sym (drop-drop (length e + 1) at t) ∙ ap (drop (length e + 1)) cut ∙ drop-append-add e (10 ∷ u) 1

    at_line_lem : EntryIs t at (entry_at t at)
    at_line_lem =
        let laid : scan plain outside (drop at t) ≡ record { words = ws; ending = at_line u } = ap (scan plain outside) cut ∙ line_scan u w in
        let first : begins is_word_byte (drop at t) ≡ begins is_word_byte e = ap (begins is_word_byte) cut ∙ line_begins e u in
        let c : content t at ≡ content_of (begins is_word_byte e) ws = λ i. content_of (first i) (laid i).words in
        let x : ends t at ≡ at_line u = ap (λ (l : Laid). l.ending) laid in
        let size : length (drop at t) - length u ≡ next - at = omega (arith, long, length-drop at t) in
        let came = content_of (begins is_word_byte e) ws in
        subst (EntryIs t at) (by_parts t at came (at_line u) c x)
        (up_to next (omega (arith, long)) (omega arith) e (EntryText.ended (cut ∙ ap (λ (l : List ℕ). e ++ 10 ∷ l) (sym rest)) (omega arith)) (judge e ws w)
        (read_step (drop at t) ∙ ap₂ (by_ending read (drop at t)) c x ∙ ap₂ (λ (m : ℕ) (l : List ℕ). followed came m (read l)) size (sym rest)))

  laid_is : LaidOut outside (drop at t) → EntryIs t at (entry_at t at)
  laid_is (to_end ws w) = with_text ws w
  laid_is (to_line e u ws cut w) = at_line_lem e u ws cut w
  laid_is (to_fault f) = subst (EntryIs t at) (by_parts t at _ at_fault refl (fault_scan f)) (misshapen (fault_scan f))

-- an entry before the text's end, as it is read, is known
pub entry_is : (t : List ℕ) (at : ℕ) → at < length t → (e : Entry) → e ≡ entry_at t at → EntryIs t at e
entry_is t at some e q = subst (EntryIs t at) (sym q) (laid_is t at some (laid_out outside (drop at t)))
