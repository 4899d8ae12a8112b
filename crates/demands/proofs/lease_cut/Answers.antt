use Prim.Native.Nat.{ℕ}
use mathlib.Core.Path.{◌≡◌, sym, subst, ◌∙◌}
use mathlib.Core.List.{List}
use native.Mathlib.Omega.{arith}
use Rattle.demands.specs.Told.{LeaseMended}
use Rattle.demands.proofs.LeaseLaws.{all_over, lease_mended}
use borrow.Author.Rules.{rules}
use Rattle.demands.proofs.lease_cut.Goals as goal

pub put-requires-2 : goal.put-requires-2
put-requires-2 c = omega (arith, c.requires.1, c.lease_cut_off.auto.behind, c.lease_cut_off.auto.reverse, c.lease_in_memory-answer.auto.reverse)

pub returns : goal.returns
returns c =
    let a = c.args in
    let o = c.lease_cut_off in
    let e = c.lease_in_memory-answer in
    let first = c.put.ensures ∙ all_over _ _ (omega (arith, c.requires.0, o.auto.held, o.auto.table, e.auto.table)) in
    let then = c.put-2.ensures ∙ all_over _ _ (omega (arith, c.requires.1, o.auto.behind, o.auto.reverse, e.auto.reverse)) in
    subst (λ (y : List ℕ). LeaseMended a.held.now a.behind.now a.name.now a.dhcid.now a.family a.address.now a.policy a.k e.result y c.put-2.new.to) (sym first)
    (subst (λ (y : List ℕ). LeaseMended a.held.now a.behind.now a.name.now a.dhcid.now a.family a.address.now a.policy a.k e.result e.new.table y) (sym then) (lease_mended a.held.now a.behind.now a.name.now a.dhcid.now a.family a.address.now a.policy a.k o.new.held o.new.behind o.ensures e.result e.new.table e.new.reverse e.ensures))
