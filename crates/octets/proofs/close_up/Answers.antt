use Prim.Native.Nat.{ℕ, ◌-◌}
use mathlib.Core.Path.{◌∙◌}
use mathlib.Core.List.{List}
use lib.ListN.{replicate}
use Rattle.base.specs.Bytes.{overlay}
use Rattle.octets.proofs.CloseUpLaws.{closed_up_lem}
use Rattle.octets.proofs.close_up.Goals as goal

pub returns : goal.returns
returns c =
    let b = c.args.row.now in
    let zeros : List ℕ = replicate c.args.size 0 in
    c.put_zeros.ensures
    ∙ (λ i. overlay (c.move_up.ensures i) (c.move_up.auto.row i - c.args.size) zeros)
    ∙ closed_up_lem c.args.size b c.args.at c.requires
