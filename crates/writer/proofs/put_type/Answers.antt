use mathlib.Core.Path.{ap}
use native.Mathlib.Omega.{arith}
use borrow.Author.Rules.{rules}
use lib.ListN.{length}
use Rattle.writer.proofs.PartLaws.{type_a, type_aaaa, type_dhcid}
use Rattle.writer.proofs.put_type.Goals as goal

pub put-requires : goal.put-requires
put-requires c =
    omega (arith, ap length (type_a c.args.rtype c.in-1.is))

pub put-requires-in-28 : goal.put-requires-in-28
put-requires-in-28 c =
    omega (arith, ap length (type_aaaa c.args.rtype c.in-28.is))

pub put-requires-in_default : goal.put-requires-in_default
put-requires-in_default c =
    omega (arith, ap length (type_dhcid c.args.rtype (λ e. omega arith) (λ e. omega arith)))

pub returns-in-1 : goal.returns-in-1
returns-in-1 c =
    rw (type_a c.args.rtype c.in-1.is) c.put.ensures

pub returns-in-28 : goal.returns-in-28
returns-in-28 c =
    rw (type_aaaa c.args.rtype c.in-28.is) c.put-in-28.ensures

pub returns-in_default : goal.returns-in_default
returns-in_default c =
    rw (type_dhcid c.args.rtype (λ e. omega arith) (λ e. omega arith)) c.put-in_default.ensures
