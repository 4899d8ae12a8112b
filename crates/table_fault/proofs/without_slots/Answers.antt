use mathlib.Core.Path.{refl}
use Rattle.table_fault.specs.Judging.{without_slots}
use Rattle.table_fault.proofs.without_slots.Goals as goal

pub returns : goal.returns
unfolding without_slots
returns c = refl
