use mathlib.Core.Path.{sym, ap, ◌∙◌}
use Rattle.slots.specs.Entry.{address_size}
use Rattle.ptr.proofs.LabelLaws.{length_6}
use Rattle.ptr.proofs.name_length.Goals as goal

pub returns-in-V6 : goal.returns-in-V6
returns-in-V6 c = rw c.in-V6.is (sym (length_6 _ (c.requires ∙ ap address_size c.in-V6.is)))
