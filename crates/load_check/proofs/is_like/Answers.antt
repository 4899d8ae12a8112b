use mathlib.Core.Path.{◌≡◌, ap}
use mathlib.Core.Bool.{Bool, ◌&&◌, ◌||◌}
use native.Mathlib.Omega.{arith}
use lib.Dec.{eqb}
use lib.ListN.{length, length-take}
use borrow.Author.Rules.{rules}
use Rattle.load_check.specs.Walking.{is_like}
use Rattle.load_check.proofs.is_like.Goals as goal

pub slice_bounds-same-end : goal.slice_bounds-same-end
slice_bounds-same-end c =
    let owner : length c.args.place.owner ≡ 255 = search rules in
    simp length-take (omega arith)

pub returns : goal.returns
unfolding is_like
returns c =
    ap (λ (b : Bool). b && (eqb c.args.rtype 0 || eqb c.args.place.rtype c.args.rtype)) c.same.ensures
