use Prim.Native.Nat.{ℕ}
use mathlib.Core.Path.{◌≡◌, sym, subst, ◌∙◌}
use mathlib.Core.List.{List}
use native.Mathlib.Omega.{arith}
use Rattle.demands.specs.Told.{EndMended}
use Rattle.demands.proofs.LeaseLaws.{all_over, end_mended}
use borrow.Author.Rules.{rules}
use Rattle.demands.proofs.end_cut.Goals as goal

pub put-requires-2 : goal.put-requires-2
put-requires-2 c = omega (arith, c.requires.0, c.end_cut_off.auto.held, c.end_cut_off.auto.table, c.end_in_memory-answer.auto.table)

pub returns : goal.returns
returns c =
    let a = c.args in
    let o = c.end_cut_off in
    let e = c.end_in_memory-answer in
    let first = c.put.ensures ∙ all_over _ _ (omega (arith, c.requires.1, o.auto.behind, o.auto.reverse, e.auto.reverse)) in
    let then = c.put-2.ensures ∙ all_over _ _ (omega (arith, c.requires.0, o.auto.held, o.auto.table, e.auto.table)) in
    subst (λ (y : List ℕ). EndMended a.held.now a.behind.now a.name.now a.dhcid.now a.family a.address.now a.k e.result y c.put.new.to) (sym then)
    (subst (λ (y : List ℕ). EndMended a.held.now a.behind.now a.name.now a.dhcid.now a.family a.address.now a.k e.result e.new.table y) (sym first) (end_mended a.held.now a.behind.now a.name.now a.dhcid.now a.family a.address.now a.k o.new.held o.new.behind o.ensures e.result e.new.table e.new.reverse e.ensures))
