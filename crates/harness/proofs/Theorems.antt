-- What a line shows, once something was put on it. Assumes nothing.
use Prim.Native.Nat.{ℕ, ◌≤◌}
use mathlib.Core.Path.{◌≡◌}
use mathlib.Core.List.{List, ◌++◌}
use lib.ListN.{length}
use Rattle.base.proofs.Bytes.{take_overlay}
use Rattle.harness.specs.Printing.{fitting, followed, shown}
use Rattle.harness.specs.declared.Line.{Line}

-- what it showed, and then what there was room for
pub shows : (l : Line) (x : List ℕ) → l.len ≤ length l.bytes → shown (followed l x) ≡ shown l ++ fitting l.bytes l.len x
unfolding shown followed
shows l x within = take_overlay l.bytes l.len (fitting l.bytes l.len x) within
