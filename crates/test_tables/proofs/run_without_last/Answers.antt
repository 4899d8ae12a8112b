use native.Mathlib.Omega.{arith}
use lib.ListN.{length-take}
use borrow.Author.Rules.{rules}
use Rattle.test_tables.proofs.run_without_last.Goals as goal

pub slice_bounds-run-length : goal.slice_bounds-run-length
slice_bounds-run-length c = simp length-take (omega arith)
