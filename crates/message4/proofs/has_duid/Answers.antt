use native.Mathlib.Omega.{arith}
use Rattle.message4.proofs.PartLaws4.{duid_short, duid_long, duid_first}
use Rattle.message4.proofs.has_duid.Goals as goal

pub returns-then-part-lt-SHORTEST_WITH_DUID : goal.returns-then-part-lt-SHORTEST_WITH_DUID
returns-then-part-lt-SHORTEST_WITH_DUID c = duid_short c.args.message.now c.args.part c.requires (omega arith)

pub returns-then-part-gt-LONGEST_WITH_DUID : goal.returns-then-part-gt-LONGEST_WITH_DUID
returns-then-part-gt-LONGEST_WITH_DUID c = duid_long c.args.message.now c.args.part c.requires (omega arith)

pub returns : goal.returns
returns c =
    duid_first c.args.message.now c.args.part c.requires (omega arith) (omega arith) c.first_byte.result c.first_byte.ensures
