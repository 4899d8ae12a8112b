use Prim.Native.Nat.{◌-◌}
use Rattle.message6.proofs.PassLaws6.{Passing, level}
use Rattle.message6.proofs.pass_options.Given as goal

abbrev pub invariant-loop-at : goal.invariant-loop-at
invariant-loop-at l = Passing l.message l.start l.end l.at (level l.relayed l.duid l.name)

abbrev pub decreases-loop-at : goal.decreases-loop-at
decreases-loop-at l = l.end - l.at
