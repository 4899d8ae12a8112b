use mathlib.Core.Bool.{Bool, cond}
use mathlib.Core.Path.{sym, ap}
use Rattle.name.specs.Label.{is_lower, is_digit}
use Rattle.name.specs.NotInLabel.{is_canonical_label_byte, not_in_label}
use Rattle.name.proofs.byte.not_in_label.Goals as goal

pub returns-then-b : goal.returns-then-b
unfolding not_in_label is_canonical_label_byte is_lower is_digit
returns-then-b c = sym (ap (λ (t : Bool). cond t 0 1) c.if-b.true)

pub returns-else-b : goal.returns-else-b
unfolding not_in_label is_canonical_label_byte is_lower is_digit
returns-else-b c = sym (ap (λ (t : Bool). cond t 0 1) c.if-b.false)
