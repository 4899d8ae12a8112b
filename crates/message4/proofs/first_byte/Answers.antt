use native.Mathlib.Omega.{arith}
use Rattle.message4.proofs.PartLaws4.{part_first}
use Rattle.message4.proofs.first_byte.Goals as goal

pub returns : goal.returns
returns c = part_first c.args.message.now c.args.part (omega arith)
