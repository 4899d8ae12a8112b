use Prim.Native.Nat.{ℕ, ◌-◌, ◌≤◌, ◌<◌}
use mathlib.Core.Path.{◌≡◌, sym, ap, ◌∙◌}
use native.Mathlib.Omega.{arith}
use lib.ListN.{length-take, length-drop}
use borrow.Author.Rules.{rules}
use Rattle.base.proofs.Tests.{by_ltb}
use Rattle.reverse.specs.Promise.{key_at}
use Rattle.reverse_row.proofs.KeyLaws.{key_part}
use Rattle.reverse_row.proofs.first_with.Given as goal

-- none of the first i slots has the key
abbrev pub invariant-loop-i : goal.invariant-loop-i
invariant-loop-i l = (l.i ≤ l.end) × ((j : ℕ) → j < l.i → key_at l.reverse j ≡ l.key → ⊥)

abbrev pub decreases-loop-i : goal.decreases-loop-i
decreases-loop-i l = l.end - l.i
