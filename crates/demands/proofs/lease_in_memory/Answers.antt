use Prim.Native.Nat.{ℕ}
use mathlib.Core.Path.{◌≡◌, subst, ◌∙◌}
use mathlib.Core.List.{List}
use Rattle.base.specs.Answer.{Tells}
use Rattle.slots.specs.Sizes.{most_names}
use Rattle.reverse.specs.Sizes.{most_addresses}
use Rattle.leases.specs.Calls.{Leases}
use Rattle.demands.proofs.LeaseLaws.{all_over}
use borrow.Author.Rules.{rules}
use Rattle.demands.proofs.lease_in_memory.Goals as goal

pub returns : goal.returns
returns c =
    let a = c.args in
    let p = c.requires in
    let e = c.vichrelka_lease in
    let table : c.put.new.to ≡ a.held.now = c.put.ensures ∙ all_over _ _ p.0 in
    let reverse : c.put-2.new.to ≡ a.behind.now = c.put-2.ensures ∙ all_over _ _ p.1 in
    subst (λ (y : List ℕ). Tells e.result (λ r. Leases most_names most_addresses y a.behind.now a.name.now a.dhcid.now a.family a.address.now a.policy r e.new.table e.new.reverse)) table
    (subst (λ (y : List ℕ). Tells e.result (λ r. Leases most_names most_addresses c.put.new.to y a.name.now a.dhcid.now a.family a.address.now a.policy r e.new.table e.new.reverse)) reverse e.ensures)
