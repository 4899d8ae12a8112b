use mathlib.Core.Path.{◌≡◌, sym, subst}
use native.Mathlib.Omega.{arith}
use lib.ListN.{take, drop, length-drop}
use lib.Seq.{take_all}
use borrow.Author.Rules.{rules}
use borrow.Author.Tests.{not-true, not-false}
use Rattle.base.proofs.Tests.{no_by, decides_as}
use Rattle.slots.specs.SlotTests.{NameField}
use Rattle.reverse.specs.Sizes.{key_size, name_size}
use Rattle.reverse.proofs.SlotLaws.{slot_is_key, slot_name_field, is_slot}
use Rattle.reverse_row.proofs.is_reverse_slot.Goals as goal

pub returns-then-not-is_key : goal.returns-then-not-is_key
returns-then-not-is_key c =
    let key = c.is_key in
    no_by (λ h. key.ensures.if_false c.if-not-is_key.true (slot_is_key _ h))

pub returns : goal.returns
returns c =
    let key = c.is_key in
    let s = c.args.slot.now in
    let rest : take name_size (drop key_size s) ≡ drop key_size s = take_all name_size (drop key_size s) (simp length-drop (omega arith)) in
    decides_as
    (λ field. is_slot s (key.ensures.if_true c.if-not-is_key.false) (subst NameField rest field))
    (λ h. subst NameField (sym rest) (slot_name_field s h))
    c.is_name_field.ensures
