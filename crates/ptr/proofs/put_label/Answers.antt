use Prim.Native.Nat.{ℕ, ◌+◌}
use mathlib.Core.Path.{ap, ◌∙◌}
use mathlib.Core.List.{List, [], ◌∷◌}
use native.Mathlib.Omega.{arith}
use lib.ListN.{length}
use Rattle.base.specs.Bytes.{overlay}
use Rattle.base.proofs.Bytes.{set_overlay, overlay_append}
use Rattle.ptr.proofs.put_label.Goals as goal

pub returns : goal.returns
returns c =
    let to = c.args.to.now in
    let at = c.args.at in
    let l = c.args.label.now in
    c.put.ensures ∙ ap (λ (d : List ℕ). overlay d (at + 1) l) (set_overlay to at (length l) (omega arith)) ∙ overlay_append to at (length l ∷ []) l (omega arith)
