use mathlib.Core.Path.{sym, ap}
use native.Mathlib.Omega.{arith}
use Rattle.table_load.specs.Promise.{numbered}
use Rattle.table_load.proofs.WrittenLaws.{other_type}
use Rattle.table_load.proofs.rtype_of.Goals as goal

pub returns-in-1 : goal.returns-in-1
returns-in-1 c = sym (ap numbered c.in-1.is)

pub returns-in-28 : goal.returns-in-28
returns-in-28 c = sym (ap numbered c.in-28.is)

pub returns-in_default : goal.returns-in_default
returns-in_default c = other_type c.args.number (omega arith) (omega arith)
