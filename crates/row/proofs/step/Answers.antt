use mathlib.Core.Path.{refl, ap}
use mathlib.Core.List.{◌∷◌}
use borrow.Author.Rules.{rules}
use native.Mathlib.Omega.{arith}
use Rattle.listing.specs.Found.{Told}
use Rattle.listing.specs.Giving.{end, Answers}
use Rattle.row.specs.Row.{More, TakesNext}
use Rattle.row.proofs.step.Goals as goal

pub overflow_add-count : goal.overflow_add-count
unfolding More
overflow_add-count c =
    let ahead = c.requires.2 in
    omega (arith, ahead.many)

pub returns : goal.returns
unfolding TakesNext Answers
returns c =
    let a = c.args in
    λ r rs ahead.
    let next = c.step_at-found.ensures.is_next (r ∷ rs) end ahead.gives in
    record { taken = ap (λ (x : Told). x.«record») next.0; gives = next.1; after = refl }
