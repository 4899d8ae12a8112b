use native.Mathlib.Omega.{arith}
use lib.ListN.{length-take}
use borrow.Author.Rules.{rules}
use Rattle.table_load.proofs.LoadLaws.{loads_short, loads_all}
use Rattle.table_load.proofs.load_right.Goals as goal

pub returns-then-table-lt-SIZE : goal.returns-then-table-lt-SIZE
returns-then-table-lt-SIZE c = let p = c.requires.1 in loads_short _ _ p.0 p.1 _ _ (omega arith) c.refused.ensures

pub slice_bounds-fill-end-2 : goal.slice_bounds-fill-end-2
slice_bounds-fill-end-2 c = simp length-take (omega arith)

pub fill-requires : goal.fill-requires
fill-requires c = (simp length-take (omega arith), c.requires.0, c.requires.1)

pub returns : goal.returns
returns c =
    let p = c.requires.1 in
    loads_all _ _ p.0 p.1 _ _ (omega arith) (c.fill.ensures p.0 p.1.gives)
