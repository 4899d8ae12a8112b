use Prim.Native.Nat.{◌-◌}
use mathlib.Core.Path.{◌≡◌, refl, ◌∙◌}
use native.Mathlib.Omega.{arith}
use lib.ListN.{length}
use Rattle.slots.specs.Promise.{OfTable}
use Rattle.slots.specs.Sizes.{most_names}
use Rattle.slots.proofs.TableLaws.{length_table, no_more, none_at}
use Rattle.table_write.proofs.WriteLaws.{Written, written_none, written_end, written_more, measured_within, used_slot}
use Rattle.table_write.proofs.put_listing.Given as goal

abbrev pub invariant-loop-i : goal.invariant-loop-i
invariant-loop-i l = (length l.to ≡ length l.initial.to) × (OfTable most_names l.table (λ t. Written t l.initial.to l.to l.i l.at))

abbrev pub decreases-loop-i : goal.decreases-loop-i
decreases-loop-i l = most_names - l.i
