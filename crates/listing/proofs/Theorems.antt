-- The public theorems of `listing`: what its functions promise, said of the definitions of `grammar` alone. Assumes nothing.
use Prim.Native.Nat.{ℕ, ◌≤◌, ◌<◌}
use mathlib.Core.Path.{◌≡◌, sym, subst, ◌∙◌}
use mathlib.Core.Logic.{◌↔◌}
use mathlib.Core.List.{List, [], map}
use native.Mathlib.Nat.{zero-add}
use lib.ListN.{length}
use Rattle.base.specs.declared.Answer.{Answer}
use Rattle.base.specs.declared.Answer.TheVariants.{Accepted, Refused}
use Rattle.base.specs.Refusal.{listing_long}
use Rattle.grammar.specs.Listing.{ResourceRecord, Spells}
use Rattle.grammar.specs.Faults
use Rattle.grammar.specs.Outcome as outcome
use Rattle.grammar.specs.Outcome.{Checked}
use Rattle.listing.specs.Reading.{limit, Checks}
use Rattle.listing.specs.Found.{told}
use Rattle.listing.specs.Giving.{Last, end, refusal, Gives, Answers, StepIs, Asked, answers}
use Rattle.listing.specs.declared.Found.TheVariants as found
use Rattle.listing.specs.declared.Step.{Step}
use Rattle.listing.proofs.SpellingLaws.{check_by, count_of}
use Rattle.listing.proofs.GivingLaws.{some_given, one_given, asked}
use Rattle.listing.proofs.OneLaws.{refused_exactly, step_one}

-- ---- the check

module _ (t : List ℕ) (a : Answer) (is : Checks t a) where
  -- a text within the limit that spells a list is accepted, with the list's length; and nothing else is
  pub accepted : (rs : List ResourceRecord) → length t ≤ limit → Spells t rs → a ≡ Accepted (length rs)
  accepted rs fits s = check_by t a is _ (Checked.whole fits s)

  pub accepted_only : (n : ℕ) → a ≡ Accepted n → (rs : List ResourceRecord) × Spells t rs × (length rs ≡ n) × (length t ≤ limit)
  accepted_only n e = count_of t a is n e

  -- a text that is refused with a number at an offset is refused so
  pub refused : (rs : List ResourceRecord) (n offset : ℕ) → length t ≤ limit → Faults.Refused t rs n offset → a ≡ Refused n offset
  refused rs n offset fits r = check_by t a is _ (Checked.faulty fits r)

  pub too_long : limit < length t → a ≡ Refused listing_long 0
  too_long h = check_by t a is _ (Checked.too_long h)

-- ---- one step, from the offset at on

-- from every offset of every text something has to be given, and one thing only (specs/Giving.antt): so `Answers` says all that a step tells
pub some_giving : (t : List ℕ) (at : ℕ) → (rs : List ResourceRecord) × (l : Last) × Gives t at rs l
some_giving t at = some_given t at

pub one_giving : (t : List ℕ) (at : ℕ) (rs qs : List ResourceRecord) (l m : Last) → Gives t at rs l → Gives t at qs m → (rs ≡ qs) × (l ≡ m)
one_giving t at rs qs l m g h = one_given t at g h

-- from the beginning of a text: what gives records to the end is accepted, and what gives a refusal is refused so
pub gives_accepted : {t : List ℕ} {rs : List ResourceRecord} → Gives t 0 rs end → Checked limit t (outcome.accepted rs)
gives_accepted (Gives.whole fits s) = Checked.whole fits s

pub gives_refused : {t : List ℕ} {rs : List ResourceRecord} {n p : ℕ} → Gives t 0 rs (refusal n p) → Checked limit t (outcome.refused n p)
gives_refused (Gives.too_long over) = Checked.too_long over
gives_refused {t} (Gives.faulty {n = n} {p = p} fits f e) = subst (λ (o : ℕ). Checked limit t (outcome.refused n o)) (sym (e ∙ zero-add p)) (Checked.faulty fits f)

-- it has found a refusal exactly if no record is left before that
pub step_refused : (t : List ℕ) (at : ℕ) (s : Step) → Answers t at s → (n offset : ℕ) → (s.found ≡ found.Refused n offset) ↔ Gives t at [] (refusal n offset)
step_refused t at s a n offset = refused_exactly t at s a n offset

-- one step keeps the promise of `step_at`
pub one_step : (t : List ℕ) (at : ℕ) (s s' : Step) → StepIs t at s → StepIs t at s' → s ≡ s'
one_step t at s s' is is' = step_one t at s s' is is'

-- ---- asked again and again from the beginning of a text, as often as there are steps in ss

-- over the limit every answer is 17 at 0
pub always_too_long : (t : List ℕ) (ss : List Step) → limit < length t → Asked t 0 ss → map told ss ≡ answers (length ss) [] (refusal listing_long 0)
always_too_long t ss over a = asked a [] (refusal listing_long 0) (Gives.too_long over)

-- of a text that spells a list the answers are its records in order, and then the end again and again
pub all_records : (t : List ℕ) (rs : List ResourceRecord) (ss : List Step) → length t ≤ limit → Spells t rs → Asked t 0 ss
    → map told ss ≡ answers (length ss) rs end
all_records t rs ss fits s a = asked a rs end (Gives.whole fits s)

-- of a text that is refused they are the records before its first faulty entry, and then that refusal again and again
pub records_before : (t : List ℕ) (rs : List ResourceRecord) (n offset : ℕ) (ss : List Step) → length t ≤ limit → Faults.Refused t rs n offset → Asked t 0 ss
    → map told ss ≡ answers (length ss) rs (refusal n offset)
records_before t rs n offset ss fits r a = asked a rs (refusal n offset) (Gives.faulty fits r (sym (zero-add offset)))
