use mathlib.Core.Path.{◌≡◌}
use native.Mathlib.Omega.{arith}
use lib.ListN.{length, length-take}
use borrow.Author.Rules.{rules}
use Rattle.load_check.proofs.RepeatLaws.{alike_nothing, alike_sought}
use Rattle.load_check.proofs.first_alike.Goals as goal

pub returns-then-n-eq0 : goal.returns-then-n-eq0
returns-then-n-eq0 c = alike_nothing _ _ _ c.if-n-eq0.true

pub slice_bounds-earlier-end : goal.slice_bounds-earlier-end
slice_bounds-earlier-end c =
    let owner : length c.args.place.owner ≡ 255 = search rules in
    simp length-take (omega arith)

pub returns : goal.returns
returns c = alike_sought _ _ _ c.earlier.result c.if-n-eq0.false c.earlier.ensures
