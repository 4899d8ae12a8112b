use Prim.Native.Nat.{ℕ}
use mathlib.Core.Path.{ap₂, ◌∙◌}
use mathlib.Core.List.{[], ◌∷◌}
use Rattle.base.specs.Bytes.{overlay}
use Rattle.ptr.proofs.PutLaws.{four_stores}
use Rattle.ptr.proofs.put_nibbles.Goals as goal

pub returns : goal.returns
returns c =
    let a = c.args in
    four_stores a.to.now a.at _ _ _ _ c.requires ∙ ap₂ (λ (l h : ℕ). overlay a.to.now a.at (1 ∷ l ∷ 1 ∷ h ∷ [])) c.hex_digit.ensures c.hex_digit-2.ensures
