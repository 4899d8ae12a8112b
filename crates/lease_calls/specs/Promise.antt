-- What the parts of a lease and of its end promise one another.
use Rattle.std.specs.Prelude.{ℕ, ◌≡◌, List}
use Rattle.base.specs.declared.Answer.{Answer}
use Rattle.base.specs.declared.Answer.TheVariants.{Accepted, Refused}
use Rattle.slots.specs.Form.{TableEntry, table_bytes, IsTable}
use Rattle.reverse.specs.Entry.{ReverseEntry}
use Rattle.reverse.specs.Form.{reverse_bytes, IsReverse}
use Rattle.leases.specs.Plan.{Sides, Plan, uncut}

-- the plan for the lists t and rs was carried out: its answer, and the bytes of the state after all its writes
pub record CarriedOut (limit places : ℕ) (plan : Sides → Plan) (t : List TableEntry) (rs : List ReverseEntry) (r : Answer) (b' c' : List ℕ) : Type 0 where
  pub answer : r ≡ (plan (record { table = t; names = rs })).answer
  pub table : b' ≡ table_bytes limit (uncut (plan (record { table = t; names = rs })) (record { table = t; names = rs })).table
  pub reverse : c' ≡ reverse_bytes places (uncut (plan (record { table = t; names = rs })) (record { table = t; names = rs })).names

-- P holds of the lists whose sides are b and c
abbrev pub OfSides : ℕ → ℕ → List ℕ → List ℕ → (List TableEntry → List ReverseEntry → Type 0) → Type 0
OfSides limit places b c P = (t : List TableEntry) (rs : List ReverseEntry) → IsTable limit t b → IsReverse places rs c → P t rs

-- what the reverse step leaves behind an add that answered so: what is new if it was accepted, and else what was there
abbrev pub behind_add : Answer → List ReverseEntry → List ReverseEntry → List ReverseEntry
behind_add (Accepted v) new old = new
behind_add (Refused n o) new old = old
