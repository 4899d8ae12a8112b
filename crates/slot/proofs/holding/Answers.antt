use Prim.Native.Nat.{ℕ}
use mathlib.Core.Bool.{true, false}
use mathlib.Core.Path.{sym, ap, ◌∙◌}
use mathlib.Core.List.{List}
use native.Mathlib.Omega.{arith}
use Rattle.base.specs.Bytes.{eq_bytes}
use Rattle.slots.proofs.EffectLaws.{slot_of_lem, of_slot, long, held_flag, holder_at, by_hand, held_by}
use Rattle.slot.proofs.holding.Goals as goal

pub bounds-slot-256 : goal.bounds-slot-256
bounds-slot-256 c = omega (arith, long (of_slot c.args.slot.now c.requires))

pub returns-then-not-is_set : goal.returns-then-not-is_set
returns-then-not-is_set c =
    λ e w form. by_hand c.args.dhcid.now e.holder (sym (held_flag (slot_of_lem w form)) ∙ sym c.is_set.ensures ∙ c.if-not-is_set.true)

pub slice_bounds-same-end : goal.slice_bounds-same-end
slice_bounds-same-end c = omega (arith, long (of_slot c.args.slot.now c.requires))

pub returns-then-same : goal.returns-then-same
returns-then-same c =
    let d = c.args.dhcid.now in
    λ e w form.
    let s = slot_of_lem w form in
    held_by d e.holder true (sym (held_flag s) ∙ sym c.is_set.ensures ∙ c.if-not-is_set.false)
    (sym (ap (λ (l : List ℕ). eq_bytes l d) (holder_at s)) ∙ sym c.same.ensures ∙ c.if-same.true)

pub returns-else-same : goal.returns-else-same
returns-else-same c =
    let d = c.args.dhcid.now in
    λ e w form.
    let s = slot_of_lem w form in
    held_by d e.holder false (sym (held_flag s) ∙ sym c.is_set.ensures ∙ c.if-not-is_set.false)
    (sym (ap (λ (l : List ℕ). eq_bytes l d) (holder_at s)) ∙ sym c.same.ensures ∙ c.if-same.false)
