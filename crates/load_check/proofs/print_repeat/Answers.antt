use native.Mathlib.Omega.{arith}
use lib.ListN.{length-take}
use borrow.Author.Rules.{rules}
use Rattle.writer.specs.Line.{Writable}
use Rattle.load_check.proofs.print_repeat.Goals as goal

pub put_head-n-requires : goal.put_head-n-requires
unfolding Writable
put_head-n-requires c =
    let f = c.first_repeat-repeat.ensures in
    record { writable = (f.later.«record», f.held); longest_head_in_bounds = search rules }

pub slice_bounds-out-end : goal.slice_bounds-out-end
slice_bounds-out-end c =
    let h = c.put_head-n in
    let f = c.first_repeat-repeat.ensures in
    omega (arith, (h.ensures f.later.«record» f.held).fits)

pub slice_bounds-print-end : goal.slice_bounds-print-end
slice_bounds-print-end c =
    let h = c.put_head-n in
    let f = c.first_repeat-repeat.ensures in
    let fits = (h.ensures f.later.«record» f.held).fits in
    simp length-take (omega arith)
