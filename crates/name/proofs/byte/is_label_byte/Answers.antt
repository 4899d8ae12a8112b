use mathlib.Core.Path.{◌∙◌}
use Rattle.name.proofs.LabelLaws.{label_set}
use Rattle.name.proofs.byte.is_label_byte.Goals as goal

pub returns : goal.returns
returns c = c.is_in.ensures ∙ label_set c.args.b
