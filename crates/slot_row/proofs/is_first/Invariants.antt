use mathlib.Core.Path.{◌≡◌}
use mathlib.Core.List.{List, ◌∷◌}
use lib.ListN.{drop}
use Rattle.slots.specs.Form.{TableEntry}
use Rattle.slots.specs.Promise.{OfTable}
use Rattle.slots.specs.Sizes.{most_names}
use Rattle.slots.proofs.NameLaws.{Searched}
use Rattle.slot_row.proofs.is_first.Given as goal

abbrev pub invariant-loop-j : goal.invariant-loop-j
invariant-loop-j l = OfTable most_names l.table (λ t. (e : TableEntry) (r : List TableEntry) → drop l.i t ≡ e ∷ r → Searched e.name t l.j)
