use mathlib.Core.Path.{sym, ap}
use native.Mathlib.Omega.{arith}
use lib.ListN.{length}
use Rattle.writer.proofs.PartLaws.{type_a, type_aaaa, type_dhcid}
use Rattle.writer.proofs.type_length.Goals as goal

pub returns-in-1 : goal.returns-in-1
returns-in-1 c = sym (ap length (type_a c.args.rtype c.in-1.is))

pub returns-in-28 : goal.returns-in-28
returns-in-28 c = sym (ap length (type_aaaa c.args.rtype c.in-28.is))

pub returns-in_default : goal.returns-in_default
returns-in_default c = sym (ap length (type_dhcid c.args.rtype (λ e. omega arith) (λ e. omega arith)))
