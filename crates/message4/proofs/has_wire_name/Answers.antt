use native.Mathlib.Omega.{arith}
use Rattle.message4.proofs.PartLaws4.{wire_short, wire_first}
use Rattle.message4.proofs.has_wire_name.Goals as goal

pub returns-then-part-lt-NAME_START : goal.returns-then-part-lt-NAME_START
returns-then-part-lt-NAME_START c = wire_short c.args.message.now c.args.part c.requires (omega arith)

pub returns : goal.returns
returns c = wire_first c.args.message.now c.args.part c.requires (omega arith) c.first_byte.result c.first_byte.ensures
