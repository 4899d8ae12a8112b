use mathlib.Core.Path.{◌≡◌, ap, ◌∙◌}
use native.Mathlib.Omega.{arith}
use lib.ListN.{length, length-take}
use borrow.Author.Rules.{rules}
use Rattle.slots.specs.Form.{table_bytes}
use Rattle.slots.specs.Sizes.{most_names}
use Rattle.slots.proofs.EffectLaws.{field_size_most}
use Rattle.table_load.proofs.PlaceLaws.{writable, written_stored}
use Rattle.table_load.proofs.store.Goals as goal

pub slice_bounds-write_in-end : goal.slice_bounds-write_in-end
slice_bounds-write_in-end c =
    let owner : length c.args.place.owner ≡ 255 = search rules in
    simp length-take (omega arith)

pub slice_bounds-write_in-end-2 : goal.slice_bounds-write_in-end-2
slice_bounds-write_in-end-2 c =
    let rdata : length c.args.place.rdata ≡ 35 = search rules in
    simp length-take (omega (arith, c.field_size-size.ensures, field_size_most c.rtype_of-rtype.result))

pub write_in-requires : goal.write_in-requires
write_in-requires c =
    let w = writable _ _ _ c.args.place c.requires.2 _ _ c.rtype_of-rtype.ensures c.field_size-size.ensures in
    (c.requires.0, c.requires.1, w.low, w.short, w.size, w.at)

pub returns : goal.returns
returns c = λ r h t is.
    c.write_in.ensures t is ∙ ap (table_bytes most_names) (written_stored c.args.place r h _ _ c.rtype_of-rtype.ensures c.field_size-size.ensures t)
