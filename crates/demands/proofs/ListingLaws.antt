-- Demand 1, of the calls that read a listing. Assumes nothing.
use Prim.Native.Nat.{ℕ}
use mathlib.Core.Bool.{Bool, true, false, false≢true}
use mathlib.Core.Path.{◌≡◌, refl, sym, ap, subst, ◌∙◌}
use mathlib.Core.Logic.{◌↔◌, inl, inr}
use mathlib.Core.List.{List, [], ◌∷◌}
use native.Mathlib.Omega.{arith}
use lib.ListN.{length}
use Rattle.base.specs.Answer.{number}
use Rattle.base.specs.Order.{AllHold, FirstFault}
use Rattle.base.specs.declared.Answer.{Answer}
use Rattle.base.specs.declared.Answer.TheVariants.{Refused}
use Rattle.base.proofs.Theorems.{one_fault, no_fault}
use Rattle.grammar.specs.Listing.{ResourceRecord}
use Rattle.grammar.specs.Outcome.{Outcome, accepted, refused, Checked, Answered}
use Rattle.grammar.proofs.Theorems.{one_check, one_answer}
use Rattle.entry.specs.declared.Record.{Record}
use Rattle.listing.specs.Reading.{limit, counted, Checks}
use Rattle.listing.specs.Found as told
use Rattle.listing.specs.Found.{is_refused}
use Rattle.listing.specs.Giving.{StepIs}
use Rattle.listing.specs.declared.Found.{Found}
use Rattle.listing.specs.declared.Found.TheVariants as found
use Rattle.listing.specs.declared.Step.{Step}
use Rattle.listing.proofs.Theorems.{step_refused}
use Rattle.row.specs.Row.{RowRead}
use Rattle.records.specs.Calls.{load_tests, Loads}
use Rattle.slots.specs.Sizes.{most_names}
use Rattle.demands.specs.Faults.{ListingFault, RowFault, StepFault, LoadFault}
use Rattle.demands.specs.Demand1.{Refuses, RefusesStep}
use Rattle.demands.proofs.AnswerLaws.{Judged, refuses}

-- ---- an outcome is one of two, and a refusal has one number at one offset

refuses_it : Outcome → Bool
refuses_it (accepted rs) = false
refuses_it (refused n offset) = true

number_of : Outcome → ℕ
number_of (accepted rs) = 0
number_of (refused n offset) = n

offset_of : Outcome → ℕ
offset_of (accepted rs) = 0
offset_of (refused n offset) = offset

list_of : Outcome → List ResourceRecord
list_of (accepted rs) = rs
list_of (refused n offset) = []

accepted≢refusal : {rs : List ResourceRecord} {n offset : ℕ} → accepted rs ≡ refused n offset → ⊥
unfolding refuses_it
accepted≢refusal e = false≢true (ap refuses_it e)

same_refusal : {n m offset at : ℕ} → refused n offset ≡ refused m at → (n ≡ m) × (offset ≡ at)
unfolding number_of offset_of
same_refusal e = (ap number_of e, ap offset_of e)

-- what has one outcome is refused with that
module _ (R : Outcome → Type 0) (one : (o p : Outcome) → R o → R p → o ≡ p) {a : Answer} where
  by_outcome : (o : Outcome) → R o → a ≡ counted o → Judged (λ n offset. R (refused n offset)) a
  by_outcome (accepted rs) h e = Judged.good (length rs) e (λ n offset k. accepted≢refusal (one (accepted rs) (refused n offset) h k))
  by_outcome (refused m at) h e = Judged.bad m at e h (λ n offset k. same_refusal (one (refused m at) (refused n offset) h k))

pub listing_refuses : (t : List ℕ) (a : Answer) → Checks t a → Refuses (ListingFault t) a
unfolding ListingFault Checks
listing_refuses t a (o, c, e) = refuses (by_outcome (Checked limit t) (one_check limit t) o c e)

pub row_refuses : (t : List ℕ) (lent handed : List Record) (a : Answer) → RowRead t lent handed a → Refuses (RowFault (length lent) t) a
unfolding RowFault
row_refuses t lent handed a h =
    refuses (by_outcome (Answered limit (length lent) t) (one_answer limit (length lent) t) h.outcome h.judged h.answered)

-- ---- one record at a time

-- what was found is that refusal exactly if it is told so
told_refusal : (f : Found) (n offset : ℕ) → (is_refused f ≡ true) × (told.number f ≡ n) × (told.offset f ≡ offset) → f ≡ found.Refused n offset
told_refusal found.Record n offset (r, e, q) = absurd (false≢true r)
told_refusal found.End n offset (r, e, q) = absurd (false≢true r)
told_refusal (found.Refused m p) n offset (r, e, q) = λ i. found.Refused (e i) (q i)

pub step_refuses : (t : List ℕ) (at : ℕ) (s : Step) → StepIs t at s → RefusesStep (StepFault t at) s.found
unfolding RefusesStep StepFault
step_refuses t at s h n offset =
    let exactly = step_refused t at s h.is_next n offset in (
      λ r. exactly.0 (told_refusal s.found n offset r),
      λ g. let e = exactly.1 g in (ap is_refused e, ap told.number e, ap told.offset e),
    )

-- ---- a load

module _ (t area : List ℕ) where
  one_load_fault : {n m offset at : ℕ} → LoadFault t area n offset → LoadFault t area m at → (n ≡ m) × (offset ≡ at)
  unfolding LoadFault ListingFault list_of
  one_load_fault {n} {m} {offset} {at} (inl f) (inl g) = same_refusal (one_check limit t (refused n offset) (refused m at) f g)
  one_load_fault {n} {m} {offset} {at} (inl f) (inr (rs, c, g)) = absurd (accepted≢refusal (one_check limit t (accepted rs) (refused n offset) c f))
  one_load_fault {n} {m} {offset} {at} (inr (rs, c, f)) (inl g) = absurd (accepted≢refusal (one_check limit t (accepted rs) (refused m at) c g))
  one_load_fault {n} {m} (inr (rs, c, f)) (inr (qs, d, g)) = (
    one_fault (load_tests most_names qs area) n m (subst (λ (ks : List ResourceRecord). FirstFault (load_tests most_names ks area) n) (ap list_of (one_check limit t (accepted rs) (accepted qs) c d)) f.0) g.0,
    f.1 ∙ sym g.1,
  )

  pub load_refuses : (a : Answer) (left : List ℕ) → Loads limit most_names t area a left → Refuses (LoadFault t area) a
  unfolding LoadFault ListingFault list_of
  load_refuses a left (Loads.not_read {n} {offset} c e l) = let f : LoadFault t area n offset = inl c in refuses (Judged.bad n offset e f (λ m at g. one_load_fault f g))
  load_refuses a left (Loads.faulty {rs} {n} c k e l) = let f : LoadFault t area n 0 = inr (rs, c, (k, refl)) in refuses (Judged.bad n 0 e f (λ m at g. one_load_fault f g))
  load_refuses a left (Loads.loaded {rs} c k e l) = refuses (Judged.good 0 e none)
    where
      none : (n offset : ℕ) → LoadFault t area n offset → ⊥
      none n offset (inl f) = accepted≢refusal (one_check limit t (accepted rs) (refused n offset) c f)
      none n offset (inr (qs, d, f)) = no_fault (load_tests most_names qs area) n (subst (λ (ks : List ResourceRecord). AllHold (load_tests most_names ks area)) (ap list_of (one_check limit t (accepted rs) (accepted qs) c d)) k) f.0
