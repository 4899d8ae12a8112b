use mathlib.Core.Path.{refl}
use native.Mathlib.Omega.{arith}
use borrow.Author.Rules.{rules}
use Rattle.table_load.proofs.FillLaws.{filled_sound, next_on, next_of, place_within, next_holds, next_storable, filled_more, filled_still, no_fault}
use Rattle.table_load.proofs.store_next.Goals as goal

pub read_entry-entry-requires : goal.read_entry-entry-requires
read_entry-entry-requires c = omega (arith, c.requires.0)

pub bounds-slots-count : goal.bounds-slots-count
bounds-slots-count c =
    let e = c.read_entry-entry in
    let n = next_of _ _ _ _ c.requires.2 e.result e.ensures c.requires.0 c.in-Record.is in
    omega (arith, place_within _ _ _ _ c.requires.2 e.result e.ensures c.requires.0 n, c.requires.1)

pub overflow_cast-i : goal.overflow_cast-i
overflow_cast-i c =
    omega (arith, c.type_inv.slots c.args.from.count)

pub store-requires : goal.store-requires
store-requires c =
    let e = c.read_entry-entry in
    let n = next_of _ _ _ _ c.requires.2 e.result e.ensures c.requires.0 c.in-Record.is in (
      filled_sound _ _ _ _ c.requires.2,
      omega (arith, c.type_inv.slots c.args.from.count),
      next_storable _ _ _ _ c.requires.2 e.result e.ensures c.requires.0 n _ refl,
    )

pub overflow_add-result : goal.overflow_add-result
overflow_add-result c =
    let e = c.read_entry-entry in
    let n = next_of _ _ _ _ c.requires.2 e.result e.ensures c.requires.0 c.in-Record.is in
    omega (arith, place_within _ _ _ _ c.requires.2 e.result e.ensures c.requires.0 n)

pub used_with-requires : goal.used_with-requires
used_with-requires c =
    omega (arith, c.type_inv.slots c.args.from.count)

pub returns-in-Record : goal.returns-in-Record
returns-in-Record c =
    let e = c.read_entry-entry in
    let n = next_of _ _ _ _ c.requires.2 e.result e.ensures c.requires.0 c.in-Record.is in
    record { filled = filled_more _ _ _ _ c.requires.2 e.result e.ensures c.requires.0 n _ refl _ (c.store.ensures n.head (next_holds _ _ _ _ c.requires.2 e.result e.ensures c.requires.0 n)) _ c.used_with.ensures; at_lt_at = next_on _ _ _ _ c.requires.2 e.result e.ensures c.requires.0 }

pub returns-in-Nothing : goal.returns-in-Nothing
returns-in-Nothing c =
    let e = c.read_entry-entry in
    record { filled = filled_still _ _ _ _ c.requires.2 e.result e.ensures c.requires.0 c.in-Nothing.is; at_lt_at = next_on _ _ _ _ c.requires.2 e.result e.ensures c.requires.0 }

pub returns-in-Fault : goal.returns-in-Fault
returns-in-Fault c =
    let e = c.read_entry-entry in
    absurd (no_fault _ _ _ _ c.requires.2 e.result e.ensures c.requires.0 _ c.in-Fault.is)
