use Prim.Native.Nat.{ℕ, ◌+◌, ◌-◌}
use mathlib.Core.Bool.{true, false}
use mathlib.Core.Path.{◌≡◌, ap, ◌∙◌}
use native.Mathlib.Omega.{arith}
use lib.ListN.{length, drop, length-drop}
use lib.Seq.{take_all}
use borrow.Author.Rules.{rules}
use borrow.Author.Tests.{tests}
use Rattle.std.proofs.lemmas.Iterator.{IsFirst-from_position, YieldsList-from_slice}
use Rattle.grammar.specs.Listing.{is_comment_byte}
use Rattle.words.proofs.RunLaws.{run_to, FirstStop, run_stops, run_ends}
use Rattle.words.proofs.comment_end.Goals as goal
use Rattle.words.proofs.comment_end.Goals.{After-position}

found : (c : After-position) → FirstStop is_comment_byte (drop c.args.at c.args.text.now) c.position.result
found c =
    let t = c.args.text.now in
    let at = c.args.at in
    let given = c.iter.ensures.rest ∙ take_all (length t - at) (drop at t) (omega (arith, length-drop at t)) in
    IsFirst-from_position _ _ c.position.result (λ b. is_comment_byte b ≡ false) (λ b. is_comment_byte b ≡ true) c.position.ensures.ran (YieldsList-from_slice _ given)
    (λ x q k. search (rules, tests)) (λ x q k. search (rules, tests))

pub returns-in-Some : goal.returns-in-Some
returns-in-Some c =
    let t = c.args.text.now in
    let at = c.args.at in
    let stop = rw c.in-Some.is at (found (goal.at.returns-in-Some c).After-position) in
    run_to is_comment_byte t at _ c.requires (ap (λ (n : ℕ). at + n) (run_stops is_comment_byte (drop at t) c.in-Some.length stop))

pub returns-in-None : goal.returns-in-None
returns-in-None c =
    let t = c.args.text.now in
    let at = c.args.at in
    let stop = rw c.in-None.is at (found (goal.at.returns-in-None c).After-position) in
    run_to is_comment_byte t at _ c.requires (omega (arith, length-drop at t, run_ends is_comment_byte (drop at t) stop))
