use Prim.Native.Nat.{ℕ}
use mathlib.Core.Path.{ap₂, ◌∙◌}
use native.Mathlib.Omega.{arith}
use Rattle.slots.specs.Promise.{field_put}
use Rattle.slots.proofs.EffectLaws.{field_bit_some, field_bit_small, field_fits}
use borrow.Author.Rules.{rules}
use Rattle.slot_change.proofs.put_data.Goals as goal

pub put_field-requires : goal.put_field-requires
put_field-requires c =
    let k = c.args.rtype in
    (c.requires.0, omega (arith, field_fits k), omega (arith, field_bit_some k), omega (arith, field_bit_small k))

pub returns : goal.returns
returns c =
    let a = c.args in
    c.put_field.ensures ∙ ap₂ (λ (bit at : ℕ). field_put a.slot.now bit at a.bytes.now) c.field_bit.ensures c.field_offset.ensures
