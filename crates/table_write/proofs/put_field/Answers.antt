use Prim.Native.Nat.{ℕ, ◌+◌, ◌-◌, ◌≤◌}
use mathlib.Core.Bool.{Bool, true}
use mathlib.Core.Path.{◌≡◌, refl, sym, ap, ◌∙◌}
use mathlib.Core.List.{List}
use native.Mathlib.Omega.{arith}
use lib.ListN.{length, take, drop}
use Rattle.name.proofs.WireLaws.{proper_some}
use Rattle.entry.specs.Held.{type_number}
use Rattle.slots.specs.Fields.{in_field, there}
use Rattle.slots.specs.Promise.{OfSlot}
use Rattle.slots.specs.Sizes.{field_at}
use Rattle.slots.specs.declared.Rtype.{Rtype}
use Rattle.slots.proofs.EffectLaws.{slot_of_lem, data_first}
use Rattle.writer.specs.Parts.{rest_part}
use Rattle.table_write.specs.Promise.{type_of, field_text, SlotFits}
use Rattle.table_write.proofs.TextLaws.{field_none}
use Rattle.table_write.proofs.WriteLaws.{puts_none, line_size, line_put, fits_slot}
use Rattle.table_write.proofs.put_field.Goals as goal

pub has-requires : goal.has-requires
has-requires c = fits_slot c.requires

pub returns-then-not-has : goal.returns-then-not-has
returns-then-not-has c =
    let a = c.args in
    λ e w form. puts_none (field_text a.rtype e) a.at a.to.now (field_none a.rtype e (sym (c.has.ensures e w form) ∙ c.if-not-has.true))

pub name_of-name-requires : goal.name_of-name-requires
name_of-name-requires c = fits_slot c.requires

pub data_from-bytes-requires : goal.data_from-bytes-requires
data_from-bytes-requires c = fits_slot c.requires

-- a field that is there, by what the calls before promise: the name n and the number v of its type, and 35 bytes bs that begin with its data
module _ (k : Rtype) {s to : List ℕ} {at : ℕ} (f : SlotFits (field_text k) s at to) where
  -- how long the line is
  sized : {h : Bool} {n bs : List ℕ} {v : ℕ} → OfSlot s (λ e. h ≡ there (in_field k e)) → h ≡ true → OfSlot s (λ e. n ≡ e.name) → v ≡ type_number (type_of k)
      → bs ≡ take 35 (drop (field_at k) s) → length (field_text k f.entry) ≡ length n - 1 + length (rest_part v bs)
  sized {bs = bs} has held name type from =
      line_size k f.entry bs (name f.entry f.well_formed f.form) type (sym (has f.entry f.well_formed f.form) ∙ held) (data_first (slot_of_lem f.well_formed f.form) k from)

  -- a name has a byte or more
  named : {n : List ℕ} → OfSlot s (λ e. n ≡ e.name) → 1 ≤ length n
  named name = omega (arith, ap length (name f.entry f.well_formed f.form), proper_some f.entry.name f.well_formed.proper)

pub put_text-requires : goal.put_text-requires
put_text-requires c =
    omega (arith, c.requires.room, sized c.args.rtype c.requires c.has.ensures c.if-not-has.false c.name_of-name.ensures c.rtype_number-number.ensures c.data_from-bytes.ensures, named c.args.rtype c.requires c.name_of-name.ensures)

pub overflow_sub-rest : goal.overflow_sub-rest
overflow_sub-rest c = named c.args.rtype c.requires c.name_of-name.ensures

pub put_rest-requires : goal.put_rest-requires
put_rest-requires c =
    let f = c.requires in record { rdata_len = (data_first (slot_of_lem f.well_formed f.form) c.args.rtype c.data_from-bytes.ensures).0; rdata_in_bounds = omega (arith, f.room, sized c.args.rtype c.requires c.has.ensures c.if-not-has.false c.name_of-name.ensures c.rtype_number-number.ensures c.data_from-bytes.ensures, c.put_text.auto.to) }

pub rest_length-requires : goal.rest_length-requires
rest_length-requires c =
    let f = c.requires in
    (data_first (slot_of_lem f.well_formed f.form) c.args.rtype c.data_from-bytes.ensures).0

pub overflow_add-result : goal.overflow_add-result
overflow_add-result c =
    omega (arith, c.requires.room, sized c.args.rtype c.requires c.has.ensures c.if-not-has.false c.name_of-name.ensures c.rtype_number-number.ensures c.data_from-bytes.ensures, c.rest_length.ensures)

pub returns : goal.returns
returns c =
    let a = c.args in
    λ e w form.
    let held = sym (c.has.ensures e w form) ∙ c.if-not-has.false in
    line_put a.rtype e c.data_from-bytes.result.now (c.name_of-name.ensures e w form) c.rtype_number-number.ensures held (data_first (slot_of_lem w form) a.rtype c.data_from-bytes.ensures)
    (omega (arith, c.requires.room)) refl c.put_text.ensures c.put_rest.ensures (ap (λ (n : ℕ). c.args.at + (length c.name_of-name.result.now - 1) + n) c.rest_length.ensures)
