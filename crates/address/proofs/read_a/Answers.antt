use mathlib.Core.Path.{refl}
use native.Mathlib.Omega.{arith}
use Rattle.base.proofs.Fill.{filled_none, filled_more, filled_all}
use Rattle.text.specs.Reading.{yes_read, none_read}
use Rattle.text.proofs.ScanLaws.{none_were_read}
use Rattle.address.proofs.AddressLaws.{octets_usable, a_fields, octet_at, a_read}
use Rattle.address.proofs.read_a.Goals as goal

pub read_fields-requires : goal.read_fields-requires
read_fields-requires c = octets_usable

pub returns-in_err-values : goal.returns-in_err-values
returns-in_err-values c = rw c.from_residual.ensures (none_read (λ bs s. none_were_read c.in_err-values.ensures bs (a_fields _ bs s)))

pub loop-i-init : goal.loop-i-init
loop-i-init c = filled_none _ _ _ refl

pub overflow_cast-bytes : goal.overflow_cast-bytes
overflow_cast-bytes c = omega (arith, octet_at _ _ c.in_ok-values.ensures c.loop-i.i (omega arith))

pub loop-i-preserved : goal.loop-i-preserved
loop-i-preserved c = filled_more _ _ _ _ _ c.loop-i.invariant (omega arith) refl

pub returns : goal.returns
returns c = yes_read (a_read _ _ c.in_ok-values.ensures _ (filled_all _ _ _ _ c.loop-i.invariant (omega arith)))
