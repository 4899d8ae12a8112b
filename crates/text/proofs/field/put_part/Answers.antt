use Prim.Native.Nat.{ℕ, suc, ◌+◌, ◌≤◌}
use mathlib.Core.Path.{ap, ◌∙◌}
use mathlib.Core.List.{List, [], ◌∷◌}
use native.Mathlib.Omega.{arith}
use lib.ListN.{length}
use Rattle.base.specs.Bytes.{overlay}
use Rattle.base.proofs.Bytes.{set_overlay, overlay_append}
use Rattle.text.proofs.field.put_part.Goals as goal

pub returns-clause-to_after : goal.returns-clause-to_after
returns-clause-to_after c =
    let a = c.args in
    let fits : a.at + suc (length a.part.now) ≤ length a.to.now = rw c.if-first.false at c.requires in
    rw c.if-first.false
    (c.put-2.ensures
    ∙ ap (λ (l : List ℕ). overlay l (a.at + 1) a.part.now) (set_overlay a.to.now a.at a.separator (omega arith))
    ∙ overlay_append a.to.now a.at (a.separator ∷ []) a.part.now (omega arith))
