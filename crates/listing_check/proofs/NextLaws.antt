-- What stands next in a listing that can be printed, as the check and the step have found it: all that the program takes from their promises. Assumes nothing.
use Prim.Native.Nat.{ℕ, ◌≤◌, ◌<◌}
use mathlib.Core.Path.{◌≡◌, refl, ap, subst, ◌∙◌}
use mathlib.Core.Logic.{inl, inr}
use mathlib.Core.List.{List, [], ◌∷◌}
use types.Run.{OneOf}
use denote.Enum.Declared.{tag_of}
use lib.ListN.{length, drop, drop_of_length-le}
use Rattle.base.specs.declared.Answer.{Answer}
use Rattle.base.specs.declared.Answer.TheVariants.{Accepted}
use Rattle.base.specs.Logic.{Every, more}
use Rattle.grammar.specs.Listing.{ResourceRecord}
use Rattle.grammar.specs.Reader.{read}
use Rattle.entry.proofs.KnownLaws.{empty}
use Rattle.writer.specs.Line.{WellFormedRecord, Holds}
use Rattle.writer.proofs.Theorems.{spelled_well_formed}
use Rattle.listing.specs.Reading.{Checks}
use Rattle.listing.specs.Giving.{end, Gives, whole, StepIs}
use Rattle.listing.specs.declared.Found.{Found}
use Rattle.listing.specs.declared.Found.TheVariants
use Rattle.listing.specs.declared.Step.{Step}
use Rattle.listing.specs.contracts.Found.{the_type}
use Rattle.listing.proofs.NextLaws.{next_record as found_record, none_left, within_limit}
use Rattle.listing.proofs.SpellingLaws.{spells_by}
use Rattle.listing.proofs.Theorems.{accepted_only}
use Rattle.listing_check.specs.Printing.{Printable}

-- a listing that the check accepts can be printed from its beginning on
pub accepted_printable : (t : List ℕ) (a : Answer) (n : ℕ) → Checks t a → a ≡ Accepted n → Printable t 0
accepted_printable t a n is e = let x = accepted_only t a is n e in (x.0, whole x.3 x.1)

-- the first of records that are given can be written
first_well_formed : {t : List ℕ} {at : ℕ} {r : ResourceRecord} {rs : List ResourceRecord} → Gives t at (r ∷ rs) end → WellFormedRecord r
first_well_formed (whole fits s) = first (spelled_well_formed _ _ s)
  where
    first : {r : ResourceRecord} {rs : List ResourceRecord} → Every WellFormedRecord (r ∷ rs) → WellFormedRecord r
    first (more w ws) = w

-- a record stands next, and others after it
pub record NextIs (t : List ℕ) (at : ℕ) (s : Step) : Type 0 where
  pub head : ResourceRecord
  pub rest : List ResourceRecord
  pub given : Gives t at (head ∷ rest) end
  pub holds : Holds s.«record» head
  pub on : at < s.next
  pub goes_on : Gives t s.next rest end

-- what is not a record is the end or a refusal
others : (f : Found) → (f ≡ TheVariants.Record → ⊥) → OneOf (1 ∷ 2 ∷ []) (tag_of the_type f)
others TheVariants.Record no_record = absurd (no_record refl)
others TheVariants.End no_record = inl refl
others (TheVariants.Refused number offset) no_record = inr refl

module _ (t : List ℕ) (at : ℕ) (p : Printable t at) (s : Step) (is : StepIs t at s) where
  pub next_record : s.found ≡ TheVariants.Record → NextIs t at s
  next_record q =
      let n = found_record t at s is p.0 p.1 q in
      let g = subst (λ (rs : List ResourceRecord). Gives t at rs end) n.order p.1 in
      record { head = n.head; rest = n.rest; given = g; holds = record { form = n.holds; well_formed = first_well_formed g }; on = n.on; goes_on = n.goes_on }

  -- no record stands next, and a refusal cannot
  pub next_none : (s.found ≡ TheVariants.Record → ⊥) → Gives t at [] end
  next_none other = subst (λ (rs : List ResourceRecord). Gives t at rs end) (none_left t at s is p.0 p.1 (others s.found other)).order p.1

-- at the end of the text none is left either
pub none_after : {t : List ℕ} {at to : ℕ} {rs : List ResourceRecord} → Gives t at rs end → length t ≤ to → Gives t to [] end
none_after {t} {to = to} g done = whole (within_limit g) (spells_by (drop to t) [] (ap read (drop_of_length-le t done) ∙ empty))
