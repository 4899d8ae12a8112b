-- No call refuses with the number 0: so what C gets is the answer. Assumes nothing.
use Prim.Native.Nat.{ℕ}
use mathlib.Core.Bool.{Bool, true, false}
use mathlib.Core.Path.{◌≡◌, refl, sym, ◌∙◌}
use mathlib.Core.List.{List}
use native.Mathlib.Omega.{arith}
use lib.Dec.{eqb}
use borrow.Author.Tests.{eqb-true, eqb-false}
use Rattle.base.specs.declared.Answer.{Answer}
use Rattle.dhcid.specs.Chosen.{Names}
use Rattle.dhcid.specs.Dhcid.{WritesDhcid}
use Rattle.dhcid.proofs.WritingLaws.{name_refused, name_chosen}
use Rattle.grammar.specs.Outcome.{Outcome, Checked}
use Rattle.listing.specs.Reading.{limit, counted, Checks}
use Rattle.records.specs.Calls.{load_tests, Loads}
use Rattle.records.proofs.LoadingLaws.{entry_fault_number}
use Rattle.slots.specs.Sizes.{most_names}
use Rattle.demands.proofs.AnswerLaws.{Numbered, numbered_accepted, numbered_refused, numbered_as, positive, fault_positive}

pub name_numbered : (family setting : ℕ) (m site : List ℕ) (a : Answer) → Names family setting m site a → Numbered a
unfolding Names
name_numbered family setting m site a (c, h, e) = go (eqb c.refusal 0) refl
  where
    go : (b : Bool) → eqb c.refusal 0 ≡ b → Numbered a
    go false q = let nz = eqb-false c.refusal 0 q in numbered_as (e ∙ sym (name_refused c nz)) (numbered_refused _ 0 (omega (arith, nz)))
    go true q = numbered_as (e ∙ sym (name_chosen c (eqb-true c.refusal 0 q))) (numbered_accepted _)

pub dhcid_numbered : (family setting : ℕ) (m site out : List ℕ) (a : Answer) (left : List ℕ) → WritesDhcid family setting m site out a left → Numbered a
dhcid_numbered family setting m site out a left (WritesDhcid.no_name h nz) = numbered_refused _ 0 (omega (arith, nz))
dhcid_numbered family setting m site out a left (WritesDhcid.too_much s h z long) = numbered_refused 14 0 (omega arith)
dhcid_numbered family setting m site out a left (WritesDhcid.no_room s h z few short) = numbered_refused 13 0 (omega arith)
dhcid_numbered family setting m site out a left (WritesDhcid.written s h z few room) = numbered_accepted 35

checked_numbered : {t : List ℕ} {o : Outcome} → Checked limit t o → Numbered (counted o)
checked_numbered (Checked.too_long h) = numbered_refused 17 0 (omega arith)
checked_numbered (Checked.faulty {n = n} {offset} short r) = numbered_refused n offset (entry_fault_number r.faulty)
checked_numbered (Checked.whole {rs} short s) = numbered_accepted _

pub check_numbered : (t : List ℕ) (a : Answer) → Checks t a → Numbered a
unfolding Checks
check_numbered t a (o, c, e) = numbered_as e (checked_numbered c)

pub load_numbered : (t area : List ℕ) (a : Answer) (left : List ℕ) → Loads limit most_names t area a left → Numbered a
unfolding positive
load_numbered t area a left (Loads.not_read c e l) = numbered_as e (checked_numbered c)
load_numbered t area a left (Loads.faulty {rs} {n} c f e l) = numbered_as e (numbered_refused n 0 (fault_positive (load_tests most_names rs area) refl n f))
load_numbered t area a left (Loads.loaded c h e l) = numbered_as e (numbered_accepted 0)
