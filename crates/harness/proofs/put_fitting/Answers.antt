use native.Mathlib.Omega.{arith}
use Rattle.harness.proofs.LineLaws.{none_fits}
use Rattle.harness.proofs.put_fitting.Goals as goal

pub returns-then-to-at-clause-to_after : goal.returns-then-to-at-clause-to_after
returns-then-to-at-clause-to_after c = (none_fits _ _ _ (omega arith)).1
