-- One step keeps the promise: what it says is the next answer, and the next entry begins at one offset. Assumes nothing.
use Prim.Native.Nat.{ℕ, ◌-◌}
use mathlib.Core.Bool.{true≢false}
use mathlib.Core.Path.{◌≡◌, refl, sym, ap, subst, ◌∙◌}
use mathlib.Core.Logic.{◌↔◌}
use mathlib.Core.List.{List, [], ◌∷◌, cons≢nil, nil≢cons}
use native.Mathlib.Omega.{arith}
use lib.ListN.{length, drop, length-drop}
use Rattle.base.proofs.Tests.{by_ltb}
use Rattle.grammar.specs.Listing.{outside, Words, ResourceRecord, RecordEntry}
use Rattle.grammar.specs.Scan.{plain, Ending, at_end, at_line, at_fault, Laid, scan}
use Rattle.grammar.proofs.ScanLaws.{words_scan, line_scan}
use Rattle.entry.specs.Held.{empty_record}
use Rattle.entry.specs.EntryText.{EntryText}
use Rattle.listing.specs.Reading.{limit}
use Rattle.listing.specs.Found.{is_refused, number, offset, told}
use Rattle.listing.specs.Giving.{Last, end, refusal, Gives, NextAnswer, Answers, NoWords, GoesOn, StepIs}
use Rattle.listing.specs.declared.Found.{Found}
use Rattle.listing.specs.declared.Found.TheVariants as found
use Rattle.listing.specs.declared.Step.{Step}
use Rattle.listing.proofs.FoundLaws.{found_by, told_one}
use Rattle.listing.proofs.GivingLaws.{some_given}

-- ---- what is said

pub refused_exactly : (t : List ℕ) (at : ℕ) (s : Step) → Answers t at s → (n p : ℕ) → (s.found ≡ found.Refused n p) ↔ Gives t at [] (refusal n p)
unfolding Answers
refused_exactly t at s a n p = (forth (some_given t at), λ g. found_by s (found.Refused n p) empty_record (a [] (refusal n p) g).0)
  where
    forth : ((rs : List ResourceRecord) × (l : Last) × Gives t at rs l) → s.found ≡ found.Refused n p → Gives t at [] (refusal n p)
    forth (r ∷ rs, l, g) e = absurd (true≢false (sym (ap is_refused e) ∙ ap (λ x. x.refused) (a (r ∷ rs) l g).0))
    forth ([], end, g) e = absurd (true≢false (sym (ap is_refused e) ∙ ap (λ x. x.refused) (a [] end g).0))
    forth ([], refusal m q, g) e =
        let said = (a [] (refusal m q) g).0 in
        subst (λ (k : ℕ). Gives t at [] (refusal k p)) (sym (ap (λ x. x.number) said) ∙ ap number e)
        (subst (λ (k : ℕ). Gives t at [] (refusal m k)) (sym (ap (λ x. x.offset) said) ∙ ap offset e) g)

told_next : (t : List ℕ) (s s' : Step) (rs : List ResourceRecord) (l : Last) → NextAnswer t rs l s → NextAnswer t rs l s' → told s ≡ told s'
told_next t s s' [] l a b = a.0 ∙ sym b.0
told_next t s s' (r ∷ rs) l a b = a.0 ∙ sym b.0

-- ---- where it goes on

-- where the entry after one begins that ends so
abbrev behind : List ℕ → Ending → ℕ
behind t at_end = length t
behind t (at_line u) = length t - length u
behind t at_fault = 0

module _ {t : List ℕ} {at next : ℕ} {e : List ℕ} {ws : List (List ℕ)} (x : EntryText t at e next) (w : Words outside e ws) where
  text_words : (scan plain outside (drop at t)).words ≡ ws
  text_words = go x
    where
      go : {next : ℕ} → EntryText t at e next → (scan plain outside (drop at t)).words ≡ ws
      go (EntryText.last here cut) = ap (λ (l : List ℕ). (scan plain outside l).words) cut ∙ ap (λ (l : Laid). l.words) (words_scan w)
      go {next} (EntryText.ended cut within) = ap (λ (l : List ℕ). (scan plain outside l).words) cut ∙ ap (λ (l : Laid). l.words) (line_scan (drop next t) w)

  text_next : next ≡ behind t (scan plain outside (drop at t)).ending
  text_next = go x
    where
      go : {next : ℕ} → EntryText t at e next → next ≡ behind t (scan plain outside (drop at t)).ending
      go (EntryText.last here cut) = sym (ap (λ (l : List ℕ). behind t (scan plain outside l).ending) cut ∙ ap (λ (l : Laid). behind t l.ending) (words_scan w))
      go {next} (EntryText.ended cut within) =
          let place : next ≡ length t - length (drop next t) = omega (arith, length-drop next t) in
          place ∙ sym (ap (λ (l : List ℕ). behind t (scan plain outside l).ending) cut ∙ ap (λ (l : Laid). behind t l.ending) (line_scan (drop next t) w))

-- the entry of the record, after entries with no words, is one
module _ (t : List ℕ) where
  abbrev words_from : ℕ → List (List ℕ)
  words_from at = (scan plain outside (drop at t)).words

  abbrev next_from : ℕ → ℕ
  next_from at = behind t (scan plain outside (drop at t)).ending

  one_record : {at at' i j next next' : ℕ} {e e' : List ℕ} {r r' : ResourceRecord} → NoWords t at i → EntryText t i e next → RecordEntry e r
      → NoWords t at' j → EntryText t j e' next' → RecordEntry e' r' → at ≡ at' → next ≡ next'
  one_record NoWords.none x z NoWords.none x' z' q = text_next x z.words ∙ ap next_from q ∙ sym (text_next x' z'.words)
  one_record NoWords.none x z (NoWords.more f y w p) x' z' q = absurd (cons≢nil (sym (text_words x z.words) ∙ ap words_from q ∙ text_words y w))
  one_record (NoWords.more f y w p) x z NoWords.none x' z' q = absurd (nil≢cons (sym (text_words y w) ∙ ap words_from q ∙ text_words x' z'.words))
  one_record (NoWords.more f y w p) x z (NoWords.more f' y' w' p') x' z' q = one_record p x z p' x' z' (text_next y w ∙ ap next_from q ∙ sym (text_next y' w'))

goes_one : (t : List ℕ) (at : ℕ) (f : Found) (i j : ℕ) → GoesOn t at f i → GoesOn t at f j → i ≡ j
goes_one t at found.Record i j g h = one_record t g.passed g.stands g.spells h.passed h.stands h.spells refl
goes_one t at found.End i j g h = by_ltb at (length t) (λ lt. g.0 (omega arith) ∙ sym (h.0 (omega arith))) (λ le. g.1 le ∙ sym (h.1 le))
goes_one t at (found.Refused n p) i j g h = by_ltb limit (length t) (λ over. g.1 over ∙ sym (h.1 over)) (λ fits. g.0 fits ∙ sym (h.0 fits))

pub step_one : (t : List ℕ) (at : ℕ) (s s' : Step) → StepIs t at s → StepIs t at s' → s ≡ s'
unfolding Answers
step_one t at s s' is is' =
    let x = some_given t at in
    let same = told_one s s' (told_next t s s' x.0 x.1 (is.is_next x.0 x.1 x.2) (is'.is_next x.0 x.1 x.2)) in
    let on = goes_one t at s'.found s.next s'.next (subst (λ (f : Found). GoesOn t at f s.next) same.0 is.goes_on) is'.goes_on in
    λ i. record { found = same.0 i; «record» = same.1 i; next = on i }
