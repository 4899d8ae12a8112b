use mathlib.Core.Path.{refl}
use native.Mathlib.Omega.{arith}
use lib.ListN.{length-take}
use Rattle.base.proofs.Lists.{every_from}
use Rattle.demands.specs.Told.{Carried}
use Rattle.demands.proofs.ChangeLaws.{was_written, was_refused, not_accepted, carried, same_carried}
use borrow.Author.Rules.{rules}
use Rattle.demands.proofs.table_carried.Goals as goal

pub returns-then-written-ne0 : goal.returns-then-written-ne0
returns-then-written-ne0 c =
    let r = was_refused _ _ _ _ c.vichrelka_table_write-written.ensures c.if-written-ne0.true in
    record { steps = Carried.not_written r.0 r.1 r.2 refl; same = λ w q accepted enough. absurd (not_accepted _ _ _ _ _ _ r.2 w q accepted) }

pub slice_bounds-vichrelka_table_load-end : goal.slice_bounds-vichrelka_table_load-end
slice_bounds-vichrelka_table_load-end c =
    let h = was_written _ _ _ _ c.vichrelka_table_write-written.ensures c.if-written-ne0.false in
    omega (arith, h.value_is, h.within)

pub slice_bounds-vichrelka_table_load-end-2 : goal.slice_bounds-vichrelka_table_load-end-2
slice_bounds-vichrelka_table_load-end-2 c =
    let h = was_written _ _ _ _ c.vichrelka_table_write-written.ensures c.if-written-ne0.false in
    simp length-take (omega (arith, h.value_is, h.within))

pub returns : goal.returns
returns c =
    let h = was_written _ _ _ _ c.vichrelka_table_write-written.ensures c.if-written-ne0.false in
    let loaded = c.vichrelka_table_load.ensures in record { steps = carried _ _ _ _ h _ _ _ loaded; same = λ w q accepted enough. same_carried _ _ _ _ h _ _ _ (every_from _ (λ i. omega (arith, c.type_inv.table i))) enough loaded }
