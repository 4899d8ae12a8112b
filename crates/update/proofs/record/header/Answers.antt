use native.Mathlib.Omega.{arith}
use Rattle.update.proofs.RestLaws.{header_is}
use borrow.Author.Rules.{rules}
use Rattle.update.proofs.record.header.Goals as goal

pub returns : goal.returns
returns c = header_is c.args.id c.args.prerequisites c.args.updates (omega (arith, c.ranges)) (omega (arith, c.ranges))
