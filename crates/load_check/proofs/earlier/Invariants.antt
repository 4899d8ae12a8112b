use Prim.Native.Nat.{◌-◌, ◌≤◌}
use mathlib.Core.Path.{sym, ◌∙◌}
use mathlib.Core.List.{List}
use native.Mathlib.Omega.{arith}
use lib.ListN.{length}
use borrow.Author.Rules.{rules}
use Rattle.entry.proofs.KnownLaws.{entry_is}
use Rattle.load_check.specs.Loading.{Entered}
use Rattle.load_check.specs.Walking.{Walked}
use Rattle.load_check.proofs.WalkLaws.{Sought, sought_none, sought_found, sought_more, sought_all}
use Rattle.load_check.proofs.earlier.Given as goal

abbrev pub invariant-loop-at : goal.invariant-loop-at
invariant-loop-at l = (es : List Entered) → Walked l.text l.end 0 es → Sought l.text l.end l.owner l.rtype es l.at

abbrev pub decreases-loop-at : goal.decreases-loop-at
decreases-loop-at l = l.end - l.at
