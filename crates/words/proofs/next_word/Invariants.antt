use Prim.Native.Nat.{◌-◌, ◌≤◌}
use mathlib.Core.Path.{◌≡◌}
use lib.ListN.{length, drop}
use Rattle.grammar.specs.Scan.{plain, scan}
use Rattle.words.specs.NextIs.{depth_of}
use Rattle.words.proofs.next_word.Given as goal

-- what the text comes to from i on, at the depth reached, is what it comes to from at on
abbrev pub invariant-loop-i : goal.invariant-loop-i
invariant-loop-i l =
    record { from : l.at ≤ l.i; fits : l.i ≤ length l.text; same : scan plain (depth_of l.inside) (drop l.at l.text) ≡ scan plain (depth_of l.within) (drop l.i l.text) }

abbrev pub decreases-loop-i : goal.decreases-loop-i
decreases-loop-i l = length l.text - l.i
