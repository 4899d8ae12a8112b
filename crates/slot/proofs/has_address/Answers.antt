use Prim.Native.Nat.{ℕ, ◌+◌, ◌-◌}
use mathlib.Core.Path.{◌≡◌, sym, ap, ap₂, ◌∙◌}
use mathlib.Core.List.{List}
use mathlib.Core.Option.{Option}
use native.Mathlib.Omega.{arith}
use lib.ListN.{take, drop, get_or}
use Rattle.base.specs.Bytes.{eq_bytes}
use Rattle.slots.specs.Fields.{in_field}
use Rattle.slots.specs.Promise.{is_set, is_address}
use Rattle.slots.specs.Sizes.{flags_at, field_size}
use Rattle.slots.proofs.EffectLaws.{slot_of_lem, of_slot, long, field_fits, address_in, field_flag, field_at_lem, has_none, has_some}
use Rattle.slot.proofs.has_address.Goals as goal

pub bounds-slot-256 : goal.bounds-slot-256
bounds-slot-256 c = omega (arith, long (of_slot c.args.slot.now c.requires))

pub returns-then-not-is_set : goal.returns-then-not-is_set
returns-then-not-is_set c =
    let a = c.args in
    let k = c.address_type-rtype in
    let x = a.address.now in
    λ e w form.
    let unset = sym (field_flag (slot_of_lem w form) k.result) ∙ ap (λ (bit : ℕ). is_set bit (get_or a.slot.now flags_at 0)) (sym c.field_bit.ensures) ∙ sym c.is_set.ensures ∙ c.if-not-is_set.true in
    has_none x (in_field k.result e) unset ∙ ap (λ (o : Option (List ℕ)). is_address o x) (address_in a.family k.result e k.ensures)

pub slice_bounds-same-end : goal.slice_bounds-same-end
slice_bounds-same-end c =
    omega (arith, field_fits c.address_type-rtype.result, long (of_slot c.args.slot.now c.requires))

pub returns : goal.returns
returns c =
    let a = c.args in
    let k = c.address_type-rtype in
    let x = a.address.now in
    let at = c.field_offset-at in
    let size : at.result + c.field_size.result - at.result ≡ field_size k.result = omega (arith, c.field_size.ensures) in
    λ e w form.
    let s = slot_of_lem w form in
    let set = sym (field_flag s k.result) ∙ ap (λ (bit : ℕ). is_set bit (get_or a.slot.now flags_at 0)) (sym c.field_bit.ensures) ∙ sym c.is_set.ensures ∙ c.if-not-is_set.false in
    c.same.ensures ∙ ap (λ (l : List ℕ). eq_bytes l x) (ap₂ (λ (n o : ℕ). take n (drop o a.slot.now)) size at.ensures ∙ field_at_lem s k.result)
    ∙ has_some x (field_size k.result) (in_field k.result e) set
    ∙ ap (λ (o : Option (List ℕ)). is_address o x) (address_in a.family k.result e k.ensures)
