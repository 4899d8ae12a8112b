use Prim.Native.Nat.{◌-◌}
use native.Mathlib.Omega.{arith}
use Rattle.slots.specs.Form.{IsSlot}
use Rattle.slots.specs.Promise.{OfTable}
use Rattle.slots.specs.Sizes.{most_names}
use Rattle.slots.proofs.TableLaws.{length_table, no_more, none_at}
use Rattle.table_write.proofs.WriteLaws.{Measured, measured_none, measured_end, measured_more, measured_within, used_slot, listing_short}
use Rattle.table_write.proofs.listing_length.Given as goal

abbrev pub invariant-loop-i : goal.invariant-loop-i
invariant-loop-i l = OfTable most_names l.table (λ t. Measured t l.i l.sum)

abbrev pub decreases-loop-i : goal.decreases-loop-i
decreases-loop-i l = most_names - l.i
