-- From grammar's answer to the customer's third demand. Assumes nothing.
use Prim.Native.Nat.{ℕ, ◌≤◌}
use mathlib.Core.Path.{◌≡◌, refl, sym, ap, subst, ◌∙◌}
use mathlib.Core.List.{List, map}
use lib.ListN.{length, take, drop, length-map}
use lib.Seq.{take-append_seam, drop-append_seam}
use Rattle.base.specs.Answer.{value, IsAccepted}
use Rattle.base.specs.declared.Answer.{Answer}
use Rattle.base.specs.declared.Answer.TheVariants.{Refused}
use Rattle.base.proofs.AnswerLaws.{accepted≢refused}
use Rattle.grammar.specs.Listing.{ResourceRecord, Spells}
use Rattle.grammar.specs.Outcome.{Outcome, accepted, refused, Checked, Answered}
use Rattle.grammar.proofs.ReaderLaws.{accepted_spells, same_list}
use Rattle.grammar.proofs.Theorems.{one_answer}
use Rattle.entry.specs.Held.{held}
use Rattle.entry.specs.declared.Record.{Record}
use Rattle.listing.specs.Reading.{limit, counted}
use Rattle.row.specs.Demand3.{Demand3}
use Rattle.row.specs.Row.{placed, RowRead}

-- the demand, of the outcome that grammar gives, and of the row that goes with it
module _ (t : List ℕ) (lent : List Record) (given : Outcome) (judged : Answered limit (length lent) t given) where
  -- an accepted answer is a list that the text spells, with room for it
  accepted_list : IsAccepted (counted given) → (rs : List ResourceRecord) × Spells t rs × (length rs ≤ length lent) × (given ≡ accepted rs)
  unfolding IsAccepted
  accepted_list h = go given refl judged h
    where
      go : (o : Outcome) → given ≡ o → Answered limit (length lent) t o → IsAccepted (counted o) → (rs : List ResourceRecord) × Spells t rs × (length rs ≤ length lent) × (given ≡ accepted rs)
      go (accepted rs) e a k = let s = accepted_spells a in (rs, s.0, s.1, e)
      go (refused n p) e a k = absurd (accepted≢refused (sym k.1))

  -- what is accepted and spells rs is answered with rs
  listed : (rs : List ResourceRecord) → IsAccepted (counted given) → Spells t rs → given ≡ accepted rs
  listed rs h s = let k = accepted_list h in k.3 ∙ ap accepted (same_list k.1 s)

  pub demand3_met : Demand3 limit t lent (placed given lent) (counted given)
  unfolding IsAccepted
  demand3_met =
      record {
        accepted_exactly = λ short. (
          λ h. let k = accepted_list h in (k.0, k.1, k.2),
          λ h. (length h.0, ap counted (one_answer limit (length lent) t given (accepted h.0) judged (Answered.in_row (Checked.whole short h.1) h.2))),
        );
        one_list = λ rs qs s r. same_list s r;
        count = λ rs h s. ap (λ (o : Outcome). value (counted o)) (listed rs h s);
        places = λ rs h s.
            ap (λ (o : Outcome). take (length rs) (placed o lent)) (listed rs h s)
            ∙ ap (λ (n : ℕ). take n (placed (accepted rs) lent)) (sym (length-map rs held))
            ∙ take-append_seam (map held rs) _;
      }

-- ---- what a call leaves, whatever the listing's length

module _ (t : List ℕ) (lent handed : List Record) (a : Answer) (h : RowRead t lent handed a) where
  pub as_answered : (o : Outcome) → Answered limit (length lent) t o → (a ≡ counted o) × (handed ≡ placed o lent)
  as_answered o k =
      let same = one_answer limit (length lent) t h.outcome o h.judged k in
      (h.answered ∙ ap counted same, h.row ∙ ap (λ (q : Outcome). placed q lent) same)

  pub as_lent : (n p : ℕ) → a ≡ Refused n p → handed ≡ lent
  as_lent n p e = go h.outcome (sym h.answered ∙ e) h.row
    where
      go : (o : Outcome) → counted o ≡ Refused n p → handed ≡ placed o lent → handed ≡ lent
      go (accepted rs) k q = absurd (accepted≢refused k)
      go (refused m r) k q = q

  pub beyond_as_lent : drop (value a) handed ≡ drop (value a) lent
  beyond_as_lent =
      subst (λ (b : Answer). drop (value b) handed ≡ drop (value b) lent) (sym h.answered)
      (subst (λ (l : List Record). drop (value (counted h.outcome)) l ≡ drop (value (counted h.outcome)) lent) (sym h.row) (go h.outcome))
    where
      go : (o : Outcome) → drop (value (counted o)) (placed o lent) ≡ drop (value (counted o)) lent
      go (accepted rs) = ap (λ (n : ℕ). drop n (placed (accepted rs) lent)) (sym (length-map rs held)) ∙ drop-append_seam (map held rs) _
      go (refused m r) = refl
