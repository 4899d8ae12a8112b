use Rattle.base.proofs.Fill.{Copied}
use Rattle.name.specs.Name.{canonical}
use Rattle.name.proofs.wire.put_canonical.Given as goal

abbrev pub invariant-loop-i : goal.invariant-loop-i
invariant-loop-i l = Copied l.initial.to l.at (canonical l.name) l.to l.i
