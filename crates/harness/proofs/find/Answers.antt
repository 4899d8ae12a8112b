use Prim.Native.Nat.{ℕ, ◌<◌, ◌-◌, ◌+◌}
use mathlib.Core.Path.{◌≡◌, subst}
use native.Mathlib.Omega.{arith}
use lib.ListN.{length, get_or, drop}
use Rattle.std.proofs.lemmas.Grind.{common_steps}
use Rattle.harness.specs.Finding.{FirstFrom}
use Rattle.harness.proofs.FindLaws.{first_from}
use Rattle.harness.proofs.find.Goals as goal

pub returns-in-Some : goal.returns-in-Some
returns-in-Some c =
    let rest = drop c.args.at c.args.text.now in
    let before : (j : ℕ) → j < c.in-Some.i → get_or rest j 0 ≡ c.args.b → ⊥ = grind (arith, common_steps) in
    let there : get_or rest c.in-Some.i 0 ≡ c.args.b = grind (arith, common_steps) in
    let bound : c.in-Some.i < length c.args.text.now - c.args.at = grind (arith, common_steps) in
    first_from _ _ _ _ (omega arith) before (λ lt. there)

pub returns-in-None : goal.returns-in-None
returns-in-None c =
    let text = c.args.text.now in
    let at = c.args.at in
    let none : (j : ℕ) → j < length text - at → get_or (drop at text) j 0 ≡ c.args.b → ⊥ = grind (arith, common_steps) in
    let end : at + (length text - at) ≡ length text = omega arith in
    subst (FirstFrom text at c.args.b) end (first_from text at _ (length text - at) (omega arith) none (λ lt. absurd (omega arith)))
