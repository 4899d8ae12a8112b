use lib.Seq.{take_all}
use borrow.Author.Rules.{rules}
use native.Mathlib.Omega.{arith}
use Prim.Native.Nat.{ℕ, ◌-◌}
use mathlib.Core.Path.{◌≡◌, refl, sym, ap, ◌∙◌}
use lib.ListN.{get_or, take}
use Rattle.sha256_block.specs.Block.{◌⊞◌, schedule, W}
use Rattle.sha256_block.proofs.BlockLaws.{Scheduled, scheduled_more}
use Rattle.sha256_block.proofs.schedule.Given as goal

abbrev pub invariant-loop-t : goal.invariant-loop-t
invariant-loop-t l = Scheduled (take 16 l.initial.w) l.w l.t

abbrev pub decreases-loop-t : goal.decreases-loop-t
decreases-loop-t l = 64 - l.t
