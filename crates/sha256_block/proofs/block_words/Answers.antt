use borrow.Author.Rules.{rules}
use native.Mathlib.Omega.{arith}
use Prim.Native.Nat.{ℕ, ◌-◌, ◌≤◌}
use mathlib.Core.Path.{◌≡◌, refl, sym, ap, ◌∙◌}
use lib.ListN.{take}
use Rattle.base.specs.Bytes.{tabulate}
use Rattle.base.proofs.Fill.{Filled, filled_none, filled_more}
use Rattle.sha256_block.specs.Block.{word, words}
use Rattle.sha256_block.proofs.block_words.Goals as goal

pub loop-t-init : goal.loop-t-init
loop-t-init c = (omega arith, filled_none _ _ _ refl)

pub loop-t-preserved : goal.loop-t-preserved
unfolding word
loop-t-preserved c = (omega arith, filled_more _ _ _ _ _ c.loop-t.invariant.1 (omega arith) c.from_bytes.ensures)

pub returns : goal.returns
unfolding words
returns c =
    let e : c.loop-t.t ≡ 16 = omega arith in
    ap (λ (n : ℕ). take n c.loop-t.w) (sym e)
    ∙ c.loop-t.invariant.1.done ∙ ap (tabulate (word c.args.block.now)) e
