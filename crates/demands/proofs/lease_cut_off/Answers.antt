use Prim.Native.Nat.{ℕ, suc, ◌-◌}
use mathlib.Core.Path.{◌≡◌, sym, subst, ◌∙◌}
use mathlib.Core.List.{List}
use native.Mathlib.Omega.{arith}
use Rattle.demands.specs.Told.{LeaseCutOff}
use Rattle.demands.proofs.LeaseLaws.{all_over, lease_cut_none, lease_cut_one, lease_cut_both}
use borrow.Author.Rules.{rules}
use Rattle.demands.proofs.lease_cut_off.Goals as goal

pub returns-then-k-eq0 : goal.returns-then-k-eq0
returns-then-k-eq0 c =
    let a = c.args in
    let e = c.lease_in_memory in
    subst (λ (n : ℕ). LeaseCutOff a.held.now a.behind.now a.name.now a.dhcid.now a.family a.address.now a.policy n a.held.now a.behind.now) (sym c.if-k-eq0.true) (lease_cut_none a.held.now a.behind.now a.name.now a.dhcid.now a.family a.address.now a.policy e.result e.new.table e.new.reverse e.ensures)

pub returns-then-k-eq1 : goal.returns-then-k-eq1
returns-then-k-eq1 c =
    let a = c.args in
    let p = c.requires in
    let e = c.lease_in_memory in
    let stored = c.put.ensures ∙ all_over _ _ (search rules) in
    subst (λ (n : ℕ). LeaseCutOff a.held.now a.behind.now a.name.now a.dhcid.now a.family a.address.now a.policy n c.put.new.to a.behind.now) (sym c.if-k-eq1.true)
    (subst (λ (y : List ℕ). LeaseCutOff a.held.now a.behind.now a.name.now a.dhcid.now a.family a.address.now a.policy 1 y a.behind.now) (sym stored) (lease_cut_one a.held.now a.behind.now a.name.now a.dhcid.now a.family a.address.now a.policy e.result e.new.table e.new.reverse e.ensures))

pub returns : goal.returns
returns c =
    let a = c.args in
    let p = c.requires in
    let e = c.lease_in_memory in
    let first = c.put.ensures ∙ all_over _ _ (search rules) in
    let then = c.put-2.ensures ∙ all_over _ _ (search rules) in
    let more : suc (suc (a.k - 2)) ≡ a.k = omega (arith, c.if-k-eq0.false, c.if-k-eq1.false) in
    subst (λ (n : ℕ). LeaseCutOff a.held.now a.behind.now a.name.now a.dhcid.now a.family a.address.now a.policy n c.put.new.to c.put-2.new.to) more
    (subst (λ (y : List ℕ). LeaseCutOff a.held.now a.behind.now a.name.now a.dhcid.now a.family a.address.now a.policy (suc (suc (a.k - 2))) y c.put-2.new.to) (sym first)
    (subst (λ (y : List ℕ). LeaseCutOff a.held.now a.behind.now a.name.now a.dhcid.now a.family a.address.now a.policy (suc (suc (a.k - 2))) e.new.table y) (sym then) (lease_cut_both a.held.now a.behind.now a.name.now a.dhcid.now a.family a.address.now a.policy e.result e.new.table e.new.reverse e.ensures (a.k - 2))))
