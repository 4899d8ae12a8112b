use mathlib.Core.Path.{refl}
use Rattle.base.specs.Bytes.{tabulate}
use Rattle.text.specs.Digits.{digit_value}
use Rattle.address.proofs.digit_values.Goals as goal

pub returns : goal.returns
unfolding tabulate digit_value
returns c = refl
