use mathlib.Core.Path.{sym, ap}
use native.Mathlib.Omega.{arith}
use Rattle.table_fault.specs.Sweeping.{type_bit}
use Rattle.table_fault.proofs.KeptLaws.{other_bit}
use Rattle.table_fault.proofs.type_bit.Goals as goal

pub returns-in-1 : goal.returns-in-1
returns-in-1 c = sym (ap type_bit c.in-1.is)

pub returns-in-28 : goal.returns-in-28
returns-in-28 c = sym (ap type_bit c.in-28.is)

pub returns-in_default : goal.returns-in_default
returns-in_default c = other_bit c.args.rtype (omega arith) (omega arith)
