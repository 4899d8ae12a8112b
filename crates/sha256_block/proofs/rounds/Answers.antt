use native.Mathlib.Omega.{arith}
use Prim.Native.Nat.{ℕ, ◌-◌, ◌%◌, ◌≤◌}
use mathlib.Core.Path.{◌≡◌, refl, ap, ◌∙◌}
use Rattle.sha256_block.specs.Block.{rounds, K}
use Rattle.sha256_block.proofs.rounds.Goals as goal

pub loop-t-init : goal.loop-t-init
unfolding rounds
loop-t-init c = (omega arith, omega arith, refl)

pub eight_rounds-x-requires : goal.eight_rounds-x-requires
unfolding K
eight_rounds-x-requires c = (omega arith, refl)

pub loop-t-preserved : goal.loop-t-preserved
loop-t-preserved c = (omega arith, omega arith, c.eight_rounds-x.ensures _ c.loop-t.invariant.2)

pub returns : goal.returns
returns c =
    let e : c.loop-t.t ≡ 64 = omega arith in
    c.loop-t.invariant.2 ∙ ap (λ (n : ℕ). rounds n c.args.w c.args.h) e
