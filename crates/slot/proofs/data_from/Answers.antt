use Prim.Native.Nat.{ℕ, ◌+◌, ◌-◌}
use mathlib.Core.Path.{◌≡◌, ap₂}
use native.Mathlib.Omega.{arith}
use lib.ListN.{take, drop}
use Rattle.slots.proofs.EffectLaws.{of_slot, long, field_offset_most}
use Rattle.slot.proofs.data_from.Goals as goal

pub slice_bounds-result-end : goal.slice_bounds-result-end
slice_bounds-result-end c =
    omega (arith, field_offset_most c.args.rtype, long (of_slot c.args.slot.now c.requires))

pub returns : goal.returns
returns c =
    let at = c.field_offset-from.result in
    let size : at + 35 - at ≡ 35 = omega arith in
    ap₂ (λ (n o : ℕ). take n (drop o c.args.slot.now)) size c.field_offset-from.ensures
