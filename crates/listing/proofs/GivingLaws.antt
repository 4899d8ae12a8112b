-- What has to be given is what the text comes to; and a step gives the first of it. Assumes nothing.
use Prim.Native.Nat.{ℕ, ◌+◌, ◌-◌, ◌≤◌, ◌<◌}
use mathlib.Core.Bool.{Bool, true, false, true≢false}
use mathlib.Core.Path.{◌≡◌, refl, sym, ap, subst, subst₂, ◌∙◌}
use mathlib.Core.List.{List, [], ◌∷◌, map}
use native.Mathlib.Nat.{add-zero, add-sub_of_le}
use native.Mathlib.Omega.{arith}
use lib.ListN.{length, drop, drop_of_length-le}
use lib.Seq.{drop-append_seam, drop-drop}
use Rattle.base.specs.Refusal.{listing_long}
use Rattle.base.proofs.Tests.{by_ltb}
use Rattle.grammar.specs.Listing.{ResourceRecord, Records}
use Rattle.grammar.specs.Faults.{ended, Refused}
use Rattle.grammar.specs.Reader.{Verdict, right, wrong, after, shifted, read}
use Rattle.grammar.proofs.ReaderLaws.{Comes, spelled, faulted, comes, comes_read}
use Rattle.entry.proofs.KnownLaws.{empty}
use Rattle.listing.specs.Reading.{limit}
use Rattle.listing.specs.Found.{told}
use Rattle.listing.specs.Giving.{Last, end, refusal, Gives, too_long, whole, faulty, record_told, last_told, NextAnswer, Answers, Asked, answers}
use Rattle.listing.specs.declared.Step.{Step}
use Rattle.listing.proofs.SpellingLaws.{spells_by, refused_by}

-- ---- the last answer is one of the two

is_end : Last → Bool
is_end end = true
is_end (refusal n p) = false

pub end≢refusal : {n p : ℕ} → end ≡ refusal n p → ⊥
unfolding is_end
end≢refusal e = true≢false (ap is_end e)

-- ---- what has to be given, by what the text comes to

-- the records of a verdict; and the last answer, where the text begins at the offset at
abbrev records_of : Verdict → List ResourceRecord
records_of (right rs) = rs
records_of (wrong rs n p) = rs

abbrev last_of : ℕ → Verdict → Last
last_of at (right rs) = end
last_of at (wrong rs n p) = refusal n (at + p)

module _ (t : List ℕ) (at : ℕ) where
  comes_gives : length t ≤ limit → {v : Verdict} → Comes (drop at t) v → Gives t at (records_of v) (last_of at v)
  comes_gives fits (spelled s) = whole fits s
  comes_gives fits (faulted r) = faulty fits r refl

  -- within the limit nothing else has to be given; and over it, one thing
  within : {rs : List ResourceRecord} {l : Last} → length t ≤ limit → Gives t at rs l → (rs ≡ records_of (read (drop at t))) × (l ≡ last_of at (read (drop at t)))
  within fits (too_long h) = absurd (omega arith)
  within fits (whole h s) = let e = sym (comes_read (spelled s)) in (ap records_of e, ap (last_of at) e)
  within fits (faulty {n = n} h r q) = let e = sym (comes_read (faulted r)) in (ap records_of e, ap (refusal n) q ∙ ap (last_of at) e)

  beyond : {rs qs : List ResourceRecord} {l m : Last} → limit < length t → Gives t at rs l → Gives t at qs m → (rs ≡ qs) × (l ≡ m)
  beyond over (whole h s) g = absurd (omega arith)
  beyond over (faulty h r q) g = absurd (omega arith)
  beyond over (too_long h) (whole k s) = absurd (omega arith)
  beyond over (too_long h) (faulty k r q) = absurd (omega arith)
  beyond over (too_long h) (too_long k) = (refl, refl)

  pub some_given : (rs : List ResourceRecord) × (l : Last) × Gives t at rs l
  some_given = by_ltb limit (length t) (λ over. (_, _, too_long over)) (λ fits. (_, _, comes_gives fits (comes (drop at t))))

  pub one_given : {rs qs : List ResourceRecord} {l m : Last} → Gives t at rs l → Gives t at qs m → (rs ≡ qs) × (l ≡ m)
  one_given g h =
      by_ltb limit (length t) (λ over. beyond over g h)
      (λ fits. let w = within fits g in let x = within fits h in (w.0 ∙ sym x.0, w.1 ∙ sym x.1))

-- ---- a refusal comes again

-- from its first faulty entry on, a text is refused with the same number, and no record stands before
refused_again : {t : List ℕ} {rs : List ResourceRecord} {n p : ℕ} → Refused t rs n p → Refused (drop p t) [] n 0
unfolding ended
refused_again r =
    record {
      before = [];
      from = r.from;
      cut = (λ i. drop (r.at i) (r.cut i)) ∙ drop-append_seam (ended r.before) r.from;
      records = Records.none;
      faulty = r.faulty;
      at = refl;
    }

-- ---- a step

module _ (t : List ℕ) (at : ℕ) (s : Step) where
  -- it is the next answer of something that has to be given, and nothing else has to be given
  next_of : {qs : List ResourceRecord} {m : Last} → Gives t at qs m → NextAnswer t qs m s → Answers t at s
  unfolding Answers
  next_of g a rs l h =
      let same = one_given t at g h in
      subst₂ (λ (xs : List ResourceRecord) (k : Last). NextAnswer t xs k s) same.0 same.1 a

  pub over_answers : limit < length t → told s ≡ last_told (refusal listing_long 0) → Answers t at s
  over_answers over e = next_of (too_long over) (e, too_long over)

  module _ (fits : length t ≤ limit) where
    -- the text from at on comes to v, of which the step is the next answer
    next_by : {v : Verdict} → read (drop at t) ≡ v → NextAnswer t (records_of v) (last_of at v) s → Answers t at s
    next_by {v} e a = next_of (subst (λ (x : Verdict). Gives t at (records_of x) (last_of at x)) e (comes_gives t at fits (comes (drop at t)))) a

    gives_record : (r : ResourceRecord) → told s ≡ record_told r → at < s.next → (v : Verdict) → read (drop s.next t) ≡ v
        → NextAnswer t (records_of (after r (shifted (s.next - at) v))) (last_of at (after r (shifted (s.next - at) v))) s
    gives_record r q on (right rs) e = (q, whole fits (spells_by (drop s.next t) rs e))
    gives_record r q on (wrong rs n p) e =
        let there : at + (s.next - at + p) ≡ s.next + p = omega arith in
        (q, faulty fits (refused_by (drop s.next t) rs n p e) there)

    pub record_answers : (r : ResourceRecord) → told s ≡ record_told r → at < s.next → read (drop at t) ≡ after r (shifted (s.next - at) (read (drop s.next t))) → Answers t at s
    record_answers r q on e = next_by e (gives_record r q on (read (drop s.next t)) refl)

    pub end_answers : told s ≡ last_told end → length t ≤ s.next → read (drop at t) ≡ right [] → Answers t at s
    end_answers q done e = next_by e (q, whole fits (spells_by (drop s.next t) [] (ap read (drop_of_length-le t done) ∙ empty)))

    pub refusal_answers : (n : ℕ) → told s ≡ last_told (refusal n s.next) → at ≤ s.next → read (drop at t) ≡ wrong [] n (s.next - at) → Answers t at s
    refusal_answers n q on e =
        let back : at + (s.next - at) ≡ s.next = add-sub_of_le on in
        let same : drop (s.next - at) (drop at t) ≡ drop s.next t = drop-drop (s.next - at) at t ∙ ap (λ (i : ℕ). drop i t) back in
        let again = subst (λ (l : List ℕ). Refused l [] n 0) same (refused_again (refused_by (drop at t) [] n (s.next - at) e)) in
        next_by e (q ∙ ap (λ (p : ℕ). last_told (refusal n p)) (sym back), faulty fits again (back ∙ sym (add-zero s.next)))

-- ---- asked again and again

-- a step, and the steps from its offset on
first_and_others : {t : List ℕ} (s : Step) {l : Last} (ss : List Step) (rs : List ResourceRecord) → NextAnswer t rs l s
    → ((qs : List ResourceRecord) → Gives t s.next qs l → map told ss ≡ answers (length ss) qs l) → map told (s ∷ ss) ≡ answers (length (s ∷ ss)) rs l
unfolding answers
first_and_others s ss [] (q, g) others = λ i. q i ∷ others [] g i
first_and_others s ss (r ∷ rs) (q, g) others = λ i. q i ∷ others rs g i

-- the steps tell what has to be given
pub asked : {t : List ℕ} {at : ℕ} {ss : List Step} → Asked t at ss → (rs : List ResourceRecord) (l : Last) → Gives t at rs l
    → map told ss ≡ answers (length ss) rs l
unfolding answers Answers
asked Asked.none rs l g = refl
asked (Asked.more {s = s} {ss = ss} a k) rs l g = first_and_others s ss rs (a rs l g) (λ qs h. asked k qs l h)
