use Rattle.std.proofs.Common.{◌≡◌, ℕ, ◌+◌, ◌-◌, ◌*◌, ◌/◌, ◌≤◌, length, take, drop, refl, ap, ◌∙◌, ap₂, add-one, arith, length-drop, length-take}
use Rattle.sha256_block.specs.Block.{compress}
use Rattle.hash.specs.Sha256.{block, hash_value}
use Rattle.hash.specs.State.{blocks}
use Rattle.hash.proofs.absorb.Given as goal

abbrev pub invariant-loop-i : goal.invariant-loop-i
invariant-loop-i l = (l.n ≡ length l.bytes / 64) × (l.i ≤ l.n) × (l.s ≡ hash_value l.initial.s l.bytes l.i)

abbrev pub decreases-loop-i : goal.decreases-loop-i
decreases-loop-i l = l.n - l.i
