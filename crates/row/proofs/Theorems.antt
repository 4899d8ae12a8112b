-- The public theorems of `row`: what `read` promises (specs/Row.antt, RowRead), said of the definitions alone. Assumes nothing.
use Prim.Native.Nat.{ℕ}
use mathlib.Core.Path.{◌≡◌}
use mathlib.Core.List.{List}
use lib.ListN.{length, drop}
use Rattle.base.specs.Answer.{value}
use Rattle.base.specs.declared.Answer.{Answer}
use Rattle.base.specs.declared.Answer.TheVariants.{Refused}
use Rattle.grammar.specs.Outcome.{Outcome, Answered}
use Rattle.entry.specs.declared.Record.{Record}
use Rattle.listing.specs.Reading.{limit, counted}
use Rattle.row.specs.Demand3.{Demand3}
use Rattle.row.specs.Row.{placed, RowRead}
use Rattle.row.proofs.DemandLaws.{as_answered, as_lent, beyond_as_lent}

module _ (t : List ℕ) (lent handed : List Record) (a : Answer) (h : RowRead t lent handed a) where
  -- the customer's third demand, for every listing and every row
  pub demand_3 : Demand3 limit t lent handed a
  demand_3 = h.demand3

  -- for every listing and every row: what grammar's definition says is answered, and the row is the one that goes with it
  pub answered_exactly : (o : Outcome) → Answered limit (length lent) t o → (a ≡ counted o) × (handed ≡ placed o lent)
  answered_exactly o k = as_answered t lent handed a h o k

  -- a refused call changes no place
  pub refused_unchanged : (n offset : ℕ) → a ≡ Refused n offset → handed ≡ lent
  refused_unchanged n offset e = as_lent t lent handed a h n offset e

  -- the places beyond the count stay as they were
  pub beyond_unchanged : drop (value a) handed ≡ drop (value a) lent
  beyond_unchanged = beyond_as_lent t lent handed a h
