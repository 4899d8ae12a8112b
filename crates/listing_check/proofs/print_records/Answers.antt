use Prim.Native.Nat.{◌-◌}
use mathlib.Core.Path.{◌≡◌}
use native.Mathlib.Omega.{arith}
use lib.ListN.{length, length-take}
use borrow.Author.Rules.{rules}
use Rattle.listing_check.specs.Printing.{Printable}
use Rattle.listing_check.proofs.print_records.Goals as goal

pub slice_bounds-print-end-in-loop-at : goal.slice_bounds-print-end-in-loop-at
slice_bounds-print-end-in-loop-at c = simp length-take (omega arith)

pub loop-at-smaller : goal.loop-at-smaller
loop-at-smaller c = omega (arith, c.fill-batch.ensures.on (omega arith))

pub loop-at-preserved : goal.loop-at-preserved
loop-at-preserved c =
    let front = c.fill-batch.ensures.front in
    (search rules, (front.others, front.goes_on))
