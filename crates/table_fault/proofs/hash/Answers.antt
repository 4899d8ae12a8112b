use Prim.Native.Nat.{ℕ, ◌+◌, ◌-◌}
use mathlib.Core.Path.{◌≡◌, refl, sym, ap, ◌∙◌}
use native.Mathlib.Omega.{arith}
use lib.ListN.{length, drop, drop_of_length-le}
use borrow.Author.Rules.{rules}
use Rattle.table_fault.specs.Sweeping.{hashed}
use Rattle.table_fault.proofs.KeptLaws.{hashed_more}
use Rattle.table_fault.proofs.hash.Goals as goal

pub loop-i-init : goal.loop-i-init
loop-i-init c = refl

pub loop-i-preserved : goal.loop-i-preserved
loop-i-preserved c =
    let bytes = c.args.bytes.now in
    c.loop-i.invariant ∙ hashed_more bytes c.loop-i.h c.loop-i.i (omega arith) ∙ ap (λ (h : ℕ). hashed h (drop (c.loop-i.i + 1) bytes)) (sym c.hashed-h.ensures)

pub returns : goal.returns
unfolding hashed
returns c = sym (c.loop-i.invariant ∙ ap (hashed c.loop-i.h) (drop_of_length-le _ c.loop-i-test.false))
