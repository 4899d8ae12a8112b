-- What a step has found in a listing that is right: the first of the records that it has to give, or no more. Assumes nothing.
use Prim.Native.Nat.{ℕ, ◌≤◌, ◌<◌}
use mathlib.Core.Bool.{true, false≢true}
use mathlib.Core.Path.{◌≡◌, refl, ap, subst, ◌∙◌}
use mathlib.Core.List.{List, [], ◌∷◌}
use mathlib.Core.Logic.{⊎_elim}
use native.Mathlib.Omega.{arith}
use types.Run.{OneOf}
use denote.Enum.Declared.{tag_of}
use lib.ListN.{length, drop, length-drop, length-append, drop_of_length-le}
use Rattle.grammar.specs.Listing.{is_word_byte, begins, ResourceRecord}
use Rattle.grammar.specs.Reader.{read}
use Rattle.entry.specs.Held.{held}
use Rattle.entry.specs.EntryText.{EntryText}
use Rattle.entry.proofs.KnownLaws.{empty}
use Rattle.listing.specs.Reading.{limit}
use Rattle.listing.specs.Found.{count, Told}
use Rattle.listing.specs.Giving.{end, Gives, whole, NextAnswer, Answers, NoWords, RecordUpTo, GoesOn, StepIs}
use Rattle.listing.specs.declared.Found.{Found}
use Rattle.listing.specs.declared.Found.TheVariants
use Rattle.listing.specs.declared.Step.{Step}
use Rattle.listing.specs.contracts.Found.{the_type}
use Rattle.listing.proofs.FoundLaws.{found_by}
use Rattle.listing.proofs.GivingLaws.{one_given}
use Rattle.listing.proofs.SpellingLaws.{spells_by}

-- ---- where a step goes on after a record

text_on : {t e : List ℕ} {at next : ℕ} → EntryText t at e next → at ≤ next
text_on (EntryText.last here cut) = here
text_on {t} {e} {at} {next} (EntryText.ended cut within) = omega (arith, ap length cut, length-append e (10 ∷ drop next t), length-drop at t, length-drop next t)

no_words_on : {t : List ℕ} {at i : ℕ} → NoWords t at i → at ≤ i
no_words_on NoWords.none = omega arith
no_words_on (NoWords.more e x w p) = omega (arith, text_on x, no_words_on p)

-- the text of a record is not empty
some_text : (e : List ℕ) → begins is_word_byte e ≡ true → 1 ≤ length e
some_text [] h = absurd (false≢true h)
some_text (b ∷ e) h = omega arith

record_on : {t e : List ℕ} {at next : ℕ} → EntryText t at e next → begins is_word_byte e ≡ true → at < next
record_on {t} {e} {at} (EntryText.last here cut) first = omega (arith, ap length cut, some_text e first, length-drop at t)
record_on {t} {e} {at} {next} (EntryText.ended cut within) first =
    omega (arith, ap length cut, length-append e (10 ∷ drop next t), length-drop at t, length-drop next t)

up_to_on : {t : List ℕ} {at next : ℕ} → RecordUpTo t at next → at < next
up_to_on u = omega (arith, no_words_on u.passed, record_on u.stands u.spells.first)

-- ---- the next of the records that are to be given

-- what is to be given to the end is within the limit
pub within_limit : {t : List ℕ} {at : ℕ} {rs : List ResourceRecord} → Gives t at rs end → length t ≤ limit
within_limit (whole fits s) = fits

-- the first of the records rs was found, and the others are given from the step's offset on
pub record NextRecord (t : List ℕ) (at : ℕ) (rs : List ResourceRecord) (s : Step) : Type 0 where
  pub head : ResourceRecord
  pub rest : List ResourceRecord
  pub order : rs ≡ head ∷ rest
  pub holds : s.«record» ≡ held head
  pub on : at < s.next
  pub goes_on : Gives t s.next rest end

-- none was left, nor is from there on
pub record NoneLeft (t : List ℕ) (rs : List ResourceRecord) (s : Step) : Type 0 where
  pub order : rs ≡ []
  pub goes_on : Gives t s.next [] end

module _ (t : List ℕ) (at : ℕ) (s : Step) (is : StepIs t at s) (rs : List ResourceRecord) (given : Gives t at rs end) where
  next : NextAnswer t rs end s
  unfolding Answers
  next = is.is_next rs end given

  pub next_record : s.found ≡ TheVariants.Record → NextRecord t at rs s
  next_record q = go rs refl next
    where
      on : at < s.next
      on = up_to_on (subst (λ (f : Found). GoesOn t at f s.next) q is.goes_on)

      go : (qs : List ResourceRecord) → rs ≡ qs → NextAnswer t qs end s → NextRecord t at rs s
      go [] order (e, gives) = absurd (omega (arith, ap count q, ap (λ (x : Told). x.count) e))
      go (r ∷ qs) order (e, gives) = record { head = r; rest = qs; order = order; holds = ap (λ (x : Told). x.«record») e; on = on; goes_on = gives }

  -- the step has found the end, or a refusal, which cannot be
  pub none_left : OneOf (1 ∷ 2 ∷ []) (tag_of the_type s.found) → NoneLeft t rs s
  none_left other = go rs refl next
    where
      go : (qs : List ResourceRecord) → rs ≡ qs → NextAnswer t qs end s → NoneLeft t rs s
      go [] order (e, gives) = record { order = order; goes_on = gives }
      go (r ∷ qs) order (e, gives) =
          absurd (⊎_elim (λ z. omega arith) (λ z. omega arith) (subst (λ (f : Found). OneOf (1 ∷ 2 ∷ []) (tag_of the_type f)) (found_by s TheVariants.Record (held r) e) other))

-- past the end of a text nothing is given
pub none_beyond : {t : List ℕ} {at : ℕ} {rs : List ResourceRecord} → Gives t at rs end → length t ≤ at → rs ≡ []
none_beyond {t} {at} g done = (one_given t at g (whole (within_limit g) (spells_by (drop at t) [] (ap read (drop_of_length-le t done) ∙ empty)))).0
