use mathlib.Core.Path.{◌∙◌}
use Rattle.slots.proofs.TableLaws.{emptied}
use Rattle.slots.specs.Sizes.{most_names}
use Rattle.slot_row.proofs.make_empty.Goals as goal

pub returns : goal.returns
returns c =
    c.put_zeros.ensures ∙ emptied most_names c.args.table.now c.requires
