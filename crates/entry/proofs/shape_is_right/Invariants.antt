use Prim.Native.Nat.{◌-◌, ◌≤◌}
use mathlib.Core.Path.{◌≡◌, sym, ap, ◌∙◌}
use native.Mathlib.Omega.{arith}
use lib.ListN.{length}
use borrow.Author.Rules.{rules}
use Rattle.entry.specs.EntryAt.{not_at_fault}
use Rattle.entry.proofs.NextLaws.{word_is, word_ends}
use Rattle.entry.proofs.ShapeLaws.{right, line_right, end_right, fault_wrong}
use Rattle.entry.proofs.shape_is_right.Given as goal

abbrev pub invariant-loop-end : goal.invariant-loop-end
invariant-loop-end l = record { from : l.at ≤ l.i; fits : l.i ≤ length l.text; same : right l.text l.at l.inside ≡ right l.text l.i l.within }

abbrev pub decreases-loop-end : goal.decreases-loop-end
decreases-loop-end l = length l.text - l.i
