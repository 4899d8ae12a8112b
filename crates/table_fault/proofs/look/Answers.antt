use mathlib.Core.Path.{◌≡◌}
use native.Mathlib.Omega.{arith}
use lib.ListN.{length, length-take}
use borrow.Author.Rules.{rules}
use Rattle.table_fault.proofs.LookLaws.{found_proper, seen_record, seen_nothing, seen_fault}
use Rattle.table_fault.proofs.look.Goals as goal

pub read_entry-entry-requires : goal.read_entry-entry-requires
read_entry-entry-requires c = omega (arith, c.requires.1)

pub slice_bounds-mark-end : goal.slice_bounds-mark-end
slice_bounds-mark-end c =
    let owner : length c.read_entry-entry.result.«record».owner ≡ 255 = search rules in
    simp length-take (omega arith)

pub slice_bounds-index_of-end : goal.slice_bounds-index_of-end
slice_bounds-index_of-end c =
    let owner : length c.read_entry-entry.result.«record».owner ≡ 255 = search rules in
    simp length-take (omega arith)

pub index_of-requires : goal.index_of-requires
index_of-requires c =
    let e = c.read_entry-entry in
    (c.requires.2, c.requires.3, c.requires.4, found_proper _ c.requires.0 _ c.requires.1 e.result e.ensures c.in-Record.is, c.mark-m.ensures)

pub returns-in-Record : goal.returns-in-Record
returns-in-Record c =
    let e = c.read_entry-entry in
    λ ns long kept.
    seen_record _ c.requires.0 _ c.requires.1 e.result e.ensures ns _ _ _ _ c.in-Record.is (c.index_of.ensures ns long kept) c.mark-m.ensures c.type_bit.ensures

pub returns-in-Nothing : goal.returns-in-Nothing
returns-in-Nothing c =
    let e = c.read_entry-entry in
    λ ns long kept. seen_nothing _ c.requires.0 _ c.requires.1 e.result e.ensures ns _ _ _ _ c.in-Nothing.is

pub returns-in-Fault : goal.returns-in-Fault
returns-in-Fault c =
    let e = c.read_entry-entry in
    λ ns long kept. seen_fault _ c.requires.0 _ c.requires.1 e.result e.ensures ns _ _ _ _ c.in-Fault.is
