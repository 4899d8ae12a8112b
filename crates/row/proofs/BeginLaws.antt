-- How the filling of a row begins, by what the check of the listing has answered. Assumes nothing.
use Prim.Native.Nat.{ℕ, ◌≤◌, ◌<◌}
use mathlib.Core.Path.{◌≡◌, refl, sym, ap, ◌∙◌}
use mathlib.Core.List.{List}
use native.Mathlib.Omega.{arith}
use lib.Dec.{ltb}
use Rattle.base.specs.Answer.{number, value, offset}
use Rattle.base.specs.Refusal.{row_short}
use Rattle.base.specs.declared.Answer.{Answer}
use Rattle.base.specs.declared.Answer.TheVariants.{Accepted, Refused}
use Rattle.grammar.specs.Outcome.{Outcome, accepted, refused, Checked, Answered}
use Rattle.listing.specs.Reading.{limit, counted, Checks}
use Rattle.base.proofs.AnswerLaws.{accepted≢refused}
use Rattle.row.specs.Row.{refusing, Begins}

-- the check has answered a
module _ (t : List ℕ) (places : ℕ) (a : Answer) (is : Checks t a) where
  pub begins_refused : (n p : ℕ) → a ≡ Refused n p → Begins t places (refusing n p)
  unfolding Checks Begins
  begins_refused n p e = go is.0 is.1 (sym is.2 ∙ e)
    where
      go : (o : Outcome) → Checked limit t o → counted o ≡ Refused n p → Begins t places (refusing n p)
      go (accepted rs) c k = absurd (accepted≢refused k)
      go (refused m q) c k = (refused m q, Answered.refused_first c, ap (λ (b : Answer). refusing (number b) (offset b)) (sym k))

  module _ (n : ℕ) (e : a ≡ Accepted n) where
    pub begins_short : places < n → Begins t places (refusing row_short 0)
    unfolding Checks Begins
    begins_short h = go is.0 is.1 (sym is.2 ∙ e)
      where
        go : (o : Outcome) → Checked limit t o → counted o ≡ Accepted n → Begins t places (refusing row_short 0)
        go (accepted rs) c k = (refused row_short 0, Answered.short_row c (omega (arith, ap value k, h)), refl)
        go (refused m q) c k = absurd (accepted≢refused (sym k))

    pub begins_whole : n ≤ places → Begins t places (record { answer = Accepted n; at = 0; count = 0; total = n; going = ltb 0 n })
    unfolding Checks Begins
    begins_whole h = go is.0 is.1 (sym is.2 ∙ e)
      where
        go : (o : Outcome) → Checked limit t o → counted o ≡ Accepted n → Begins t places (record { answer = Accepted n; at = 0; count = 0; total = n; going = ltb 0 n })
        go (accepted rs) c k = (
          accepted rs,
          Answered.in_row c (omega (arith, ap value k, h)),
          ap (λ (m : ℕ). record { answer = Accepted m; at = 0; count = 0; total = m; going = ltb 0 m }) (sym (ap value k)),
        )
        go (refused m q) c k = absurd (accepted≢refused (sym k))
