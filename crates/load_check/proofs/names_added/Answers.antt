use mathlib.Core.Path.{◌≡◌}
use native.Mathlib.Omega.{arith}
use lib.ListN.{length, length-take}
use borrow.Author.Rules.{rules}
use Rattle.load_check.proofs.NameLaws.{adds_nothing, adds_none, adds_one}
use Rattle.load_check.proofs.names_added.Goals as goal

pub returns-then-n-eq0 : goal.returns-then-n-eq0
returns-then-n-eq0 c = adds_nothing _ _ _ c.if-n-eq0.true

pub slice_bounds-earlier-end : goal.slice_bounds-earlier-end
slice_bounds-earlier-end c =
    let owner : length c.args.place.owner ≡ 255 = search rules in
    simp length-take (omega arith)

pub returns-then-earlier-at : goal.returns-then-earlier-at
returns-then-earlier-at c = adds_none _ _ _ c.earlier.result c.earlier.ensures c.if-earlier-at.true

pub returns : goal.returns
returns c = adds_one _ _ _ c.earlier.result c.earlier.ensures (omega arith) c.if-n-eq0.false
