-- From what a text comes to, to what it spells or is refused with. Assumes nothing.
use Prim.Native.Nat.{ℕ, ◌≤◌}
use mathlib.Core.Path.{◌≡◌, sym, ap, subst, ◌∙◌}
use mathlib.Core.List.{List}
use lib.ListN.{length}
use Rattle.base.specs.Answer.{value}
use Rattle.base.specs.declared.Answer.{Answer}
use Rattle.base.specs.declared.Answer.TheVariants.{Accepted}
use Rattle.grammar.specs.Listing.{ResourceRecord, Spells}
use Rattle.grammar.specs.Faults.{Refused}
use Rattle.grammar.specs.Outcome.{Outcome, accepted, refused, Checked}
use Rattle.grammar.specs.Reader.{Verdict, right, wrong, read}
use Rattle.grammar.proofs.ReaderLaws.{Comes, spelled, faulted, comes}
use Rattle.grammar.proofs.Theorems.{one_check}
use Rattle.listing.specs.Reading.{limit, counted, Checks}
use Rattle.base.proofs.AnswerLaws.{accepted≢refused}

-- a text that comes to a verdict
comes_to : (t : List ℕ) (v : Verdict) → read t ≡ v → Comes t v
comes_to t v e = subst (Comes t) e (comes t)

pub spells_by : (t : List ℕ) (rs : List ResourceRecord) → read t ≡ right rs → Spells t rs
spells_by t rs e = go (comes_to t (right rs) e)
  where
    go : Comes t (right rs) → Spells t rs
    go (spelled s) = s

pub refused_by : (t : List ℕ) (rs : List ResourceRecord) (n p : ℕ) → read t ≡ wrong rs n p → Refused t rs n p
refused_by t rs n p e = go (comes_to t (wrong rs n p) e)
  where
    go : Comes t (wrong rs n p) → Refused t rs n p
    go (faulted r) = r

-- ---- what the check answers is what the definition gives, and nothing else

module _ (t : List ℕ) (a : Answer) (is : Checks t a) where
  pub check_by : (o : Outcome) → Checked limit t o → a ≡ counted o
  unfolding Checks
  check_by o c = is.2 ∙ ap counted (one_check limit t is.0 o is.1 c)

  pub count_of : (n : ℕ) → a ≡ Accepted n → (rs : List ResourceRecord) × Spells t rs × (length rs ≡ n) × (length t ≤ limit)
  unfolding Checks
  count_of n e = go is.0 is.1 (sym is.2 ∙ e)
    where
      go : (o : Outcome) → Checked limit t o → counted o ≡ Accepted n → (rs : List ResourceRecord) × Spells t rs × (length rs ≡ n) × (length t ≤ limit)
      go (accepted rs) (Checked.whole h s) q = (rs, s, ap value q, h)
      go (refused m p) c q = absurd (accepted≢refused (sym q))
