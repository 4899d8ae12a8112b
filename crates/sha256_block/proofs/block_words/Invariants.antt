use borrow.Author.Rules.{rules}
use native.Mathlib.Omega.{arith}
use Prim.Native.Nat.{ℕ, ◌-◌, ◌≤◌}
use mathlib.Core.Path.{◌≡◌, refl, sym, ap, ◌∙◌}
use lib.ListN.{take}
use Rattle.base.specs.Bytes.{tabulate}
use Rattle.base.proofs.Fill.{Filled, filled_none, filled_more}
use Rattle.sha256_block.specs.Block.{word, words}
use Rattle.sha256_block.proofs.block_words.Given as goal

abbrev pub invariant-loop-t : goal.invariant-loop-t
invariant-loop-t l = (l.t ≤ 16) × Filled (word l.block) 64 l.w l.t

abbrev pub decreases-loop-t : goal.decreases-loop-t
decreases-loop-t l = 16 - l.t
