use Prim.Native.Nat.{ℕ}
use mathlib.Core.Path.{sym, ap, ◌∙◌}
use native.Mathlib.Omega.{arith}
use lib.ListN.{length, length-take}
use lib.Seq.{take_all}
use borrow.Author.Rules.{rules}
use Rattle.table_fault.specs.Sweeping.{hashed, tagged, mark}
use Rattle.table_fault.proofs.mark.Goals as goal

pub slice_bounds-hash-end : goal.slice_bounds-hash-end
slice_bounds-hash-end c = simp length-take (omega arith)

pub returns-then-name-gt-MARKED : goal.returns-then-name-gt-MARKED
unfolding mark
returns-then-name-gt-MARKED c = let n = c.args.name.now in c.tagged.ensures ∙ ap (λ (h : ℕ). tagged h (length n)) c.hash.ensures

pub returns : goal.returns
unfolding mark
returns c = let n = c.args.name.now in c.tagged-2.ensures ∙ ap (λ (h : ℕ). tagged h (length n)) (c.hash-2.ensures ∙ ap (hashed 0) (sym (take_all 32 n (omega arith))))
