use Prim.Native.Nat.{◌≤◌}
use lib.ListN.{length}
use Rattle.slots.specs.Promise.{OfTable}
use Rattle.slots.specs.Sizes.{most_names}
use Rattle.slot_row.proofs.count.Given as goal

-- the first i slots are used
abbrev pub invariant-loop-i : goal.invariant-loop-i
invariant-loop-i l = OfTable most_names l.table (λ t. l.i ≤ length t)
