use mathlib.Core.List.{List}
use Prim.Native.Nat.{ℕ, ◌-◌, ◌<◌, ◌≤◌}
use native.Mathlib.Omega.{arith}
use lib.ListN.{length}
use Rattle.name.specs.Name.{canonical}
use Rattle.name.proofs.NameLaws.{length_canonical}
use Rattle.name.proofs.WithinLaws.{Walked, Turn, walked_more, walked_end}
use Rattle.name.proofs.wire.is_within.Goals as goal

-- the label that a turn passes
turn : (n z : List ℕ) (at : ℕ) → Walked n (canonical z) at × (1 ≤ length z) × (length n ≤ 255) → length z < length n - at → Turn n (canonical z) at
turn n z at walked more =
    let size = length_canonical z in
    walked_more n (canonical z) at (omega (arith, size, walked.1)) walked.0 (omega (arith, size, more))

pub loop-at-preserved : goal.loop-at-preserved
loop-at-preserved c = let l = c.loop-at in ((turn c.args.name.now c.args.zone.now c.loop-at.at c.loop-at.invariant c.loop-at-test.true).next, l.invariant.1, l.invariant.2)

pub returns : goal.returns
returns c =
    let a = c.args in
    let l = c.loop-at in
    let size = length_canonical a.zone.now in
    walked_end a.name.now (canonical a.zone.now) l.at l.invariant.0 (omega (arith, size, c.loop-at-test.false)) _ c.matches.ensures
