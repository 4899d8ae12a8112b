use Prim.Native.Nat.{ℕ, ◌/◌, ◌%◌, ◌^◌}
use mathlib.Core.Bool.{Bool, cond, ◌&&◌}
use mathlib.Core.Path.{◌≡◌, sym, ap, ◌∙◌}
use lib.Dec.{ltb, eqb}
use borrow.Author.Tests.{lt-ltb, le-ltb}
use Rattle.base.specs.Ascii.{is_in}
use Rattle.base.proofs.ascii.is_in.Goals as goal
use Rattle.base.proofs.ascii.is_in.Goals.{then-b-gt63, else-b-gt63}

pub returns : goal.returns
unfolding is_in
returns c =
    let a = c.args in
    let picked : c.if-b-gt63.bits ≡ cond (ltb 63 a.b) a.high a.low =
    elim c.if-b-gt63.branch [
      | then-b-gt63 w ↦ w.bits-is ∙ sym (ap (λ (t : Bool). cond t a.high a.low) (lt-ltb 63 a.b w.if-b-gt63.true))
      | else-b-gt63 w ↦ w.bits-is ∙ sym (ap (λ (t : Bool). cond t a.high a.low) (le-ltb 63 a.b w.if-b-gt63.false))
    ] in
    ap (λ (bits : ℕ). ltb a.b 128 && eqb (bits / 2 ^ (a.b % 64) % 2) 1) picked
