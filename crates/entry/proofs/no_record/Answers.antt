use mathlib.Core.Path.{refl}
use Rattle.base.specs.Bytes.{padded, zero_filled}
use Rattle.entry.specs.Held.{empty_record}
use Rattle.entry.proofs.no_record.Goals as goal

pub returns : goal.returns
unfolding empty_record padded zero_filled
returns c = refl
