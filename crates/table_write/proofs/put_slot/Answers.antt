use native.Mathlib.Omega.{arith}
use Rattle.table_write.proofs.TextLaws.{length_entry}
use Rattle.table_write.proofs.WriteLaws.{entry_put}
use borrow.Author.Rules.{rules}
use Rattle.table_write.proofs.put_slot.Goals as goal

pub put_field-aaaa-requires : goal.put_field-aaaa-requires
put_field-aaaa-requires c =
    let f = c.requires in
    record { entry = f.entry; well_formed = f.well_formed; form = f.form; room = omega (arith, f.room, length_entry f.entry) }

pub put_field-dhcid-requires : goal.put_field-dhcid-requires
put_field-dhcid-requires c =
    let f = c.requires in
    let a = c.put_field-aaaa.ensures f.entry f.well_formed f.form in
    record {
      entry = f.entry;
      well_formed = f.well_formed;
      form = f.form;
      room = omega (arith, f.room, length_entry f.entry, a.ends, c.put_field-aaaa.auto.to);
    }

pub put_field-requires : goal.put_field-requires
put_field-requires c =
    let f = c.requires in
    let a = c.put_field-aaaa.ensures f.entry f.well_formed f.form in
    let aaaa = c.put_field-dhcid.ensures f.entry f.well_formed f.form in
    record {
      entry = f.entry;
      well_formed = f.well_formed;
      form = f.form;
      room = omega (arith, f.room, length_entry f.entry, a.ends, aaaa.ends, c.put_field-aaaa.auto.to, c.put_field-dhcid.auto.to);
    }

pub returns : goal.returns
returns c =
    let within = c.requires.room in
    λ e w form. entry_put e (omega (arith, within)) (c.put_field-aaaa.ensures e w form) (c.put_field-dhcid.ensures e w form) (c.put_field.ensures e w form)
