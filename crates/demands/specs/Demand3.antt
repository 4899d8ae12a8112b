-- The customer's third demand, of every listing and every row. Its sentences stand one by one beside the fields that state them in `row`, specs/Demand3.antt; here stands the number that the customer
-- writes, the most bytes of a listing.
use Rattle.std.specs.Prelude.{ℕ, List}
use Rattle.base.specs.declared.Answer.{Answer}
use Rattle.entry.specs.declared.Record.{Record}
use Rattle.row.specs.Demand3 as row
use Rattle.row.specs.Row.{RowRead}

-- the listing t was read into a row that held the places lent and now holds the places handed; a was answered
abbrev pub Demanded : List ℕ → List Record → List Record → Answer → Type 0
Demanded t lent handed a = row.Demand3 65536 t lent handed a

-- it follows from what the row call promises (crates/row/src/lib.rt, `read`)
pub record Demand3 : Type 0 where
  pub row : (t : List ℕ) (lent handed : List Record) (a : Answer) → RowRead t lent handed a → Demanded t lent handed a
