use mathlib.Core.Path.{ap}
use native.Mathlib.Omega.{arith}
use Rattle.base.specs.Answer.{number, In32Bits}
use Rattle.base.proofs.Answer.for_c.Goals as goal

pub returns-in-Accepted : goal.returns-in-Accepted
unfolding In32Bits
returns-in-Accepted c = record { told = cc; small = omega (arith, ap number c.in-Accepted.is) }

pub returns-in-Refused : goal.returns-in-Refused
unfolding In32Bits
returns-in-Refused c = record { told = cc; small = omega (arith, ap number c.in-Refused.is) }
