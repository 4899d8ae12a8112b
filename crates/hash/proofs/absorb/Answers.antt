use Rattle.std.proofs.Common.{◌≡◌, ℕ, ◌+◌, ◌-◌, ◌*◌, ◌/◌, ◌≤◌, length, take, drop, refl, ap, ◌∙◌, ap₂, add-one, arith, length-drop, length-take}
use Rattle.sha256_block.specs.Block.{compress}
use Rattle.hash.specs.Sha256.{block, hash_value}
use Rattle.hash.specs.State.{blocks}
use Rattle.hash.proofs.absorb.Goals as goal

pub loop-i-init : goal.loop-i-init
unfolding hash_value
loop-i-init c = (refl, omega arith, refl)

pub compress-x-requires : goal.compress-x-requires
compress-x-requires c = simp (length-take, length-drop) (omega arith)

pub loop-i-preserved : goal.loop-i-preserved
unfolding hash_value block
loop-i-preserved c =
    let l = c.loop-i in
    let bytes = c.args.bytes.now in
    let e : l.i * 64 + 64 - l.i * 64 ≡ 64 = omega arith in (
      omega arith,
      omega arith,
      rw add-one (c.compress-x.ensures ∙ ap₂ compress l.invariant.2 (ap (λ (n : ℕ). take n (drop (l.i * 64) bytes)) e)),
    )

pub returns : goal.returns
unfolding blocks
returns c =
    let a = c.args in
    let e : c.loop-i.i ≡ length a.bytes.now / 64 = omega arith in
    c.loop-i.invariant.2 ∙ ap (hash_value a.h a.bytes.now) e
