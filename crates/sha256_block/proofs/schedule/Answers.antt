use lib.Seq.{take_all}
use borrow.Author.Rules.{rules}
use native.Mathlib.Omega.{arith}
use Prim.Native.Nat.{ℕ, ◌-◌}
use mathlib.Core.Path.{◌≡◌, refl, sym, ap, ◌∙◌}
use lib.ListN.{get_or, take}
use Rattle.sha256_block.specs.Block.{◌⊞◌, schedule, W}
use Rattle.sha256_block.proofs.BlockLaws.{Scheduled, scheduled_more}
use Rattle.sha256_block.proofs.schedule.Goals as goal

pub loop-t-init : goal.loop-t-init
unfolding schedule
loop-t-init c = record { above = omega arith; below = omega arith; long = search rules; done = refl }

pub loop-t-preserved : goal.loop-t-preserved
unfolding W
loop-t-preserved c =
    let w = c.loop-t.w in
    let t = c.loop-t.t in
    scheduled_more _ _ _ _ c.loop-t.invariant (omega arith)
    (c.add4.ensures ∙ (λ i. c.small_sigma1.ensures i ⊞ get_or w (t - 7) 0 ⊞ c.small_sigma0.ensures i ⊞ get_or w (t - 16) 0))

pub returns : goal.returns
returns c =
    let e : c.loop-t.t ≡ 64 = omega arith in
    sym (take_all c.loop-t.t c.loop-t.w (omega arith))
    ∙ c.loop-t.invariant.done ∙ ap (λ (n : ℕ). schedule (n - 16) (take 16 c.args.m)) e
