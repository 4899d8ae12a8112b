use mathlib.Core.Path.{sym, ap, ◌∙◌}
use native.Mathlib.Omega.{arith}
use borrow.Author.Rules.{rules}
use Rattle.base.specs.declared.Answer.TheVariants.{Accepted}
use Rattle.slots.specs.Sizes.{most_names}
use Rattle.table.specs.Calls.{name_tests, Finds}
use Rattle.table.proofs.ArgumentLaws.{all_hold, the_fault}
use Rattle.table.proofs.LookLaws.{index_in, not_standing, does_stand}
use Rattle.table.proofs.find.Goals as goal

pub returns-then-fault-ne0 : goal.returns-then-fault-ne0
returns-then-fault-ne0 c =
    let f = c.name_fault-fault in
    Finds.faulty (the_fault (name_tests most_names _ _) f.result c.if-fault-ne0.true f.ensures) c.refused.ensures

pub find-i-requires : goal.find-i-requires
find-i-requires c = let s = (all_hold (name_tests most_names _ _) _ c.if-fault-ne0.false c.name_fault-fault.ensures).0 in (s.table, s.slots)

pub count-requires : goal.count-requires
count-requires c =
    let s = (all_hold (name_tests most_names _ _) _ c.if-fault-ne0.false c.name_fault-fault.ensures).0 in (s.table, s.slots)

pub returns-then-i-count : goal.returns-then-i-count
returns-then-i-count c =
    let all = all_hold (name_tests most_names _ _) _ c.if-fault-ne0.false c.name_fault-fault.ensures in
    let s = all.0 in
    Finds.not_held s all.1.0
    (not_standing _ s.table (sym (c.find-i.ensures s.table s.slots) ∙ c.if-i-count.true ∙ c.count.ensures s.table s.slots)) c.refused-then-i-count.ensures

pub overflow_cast-result : goal.overflow_cast-result
overflow_cast-result c =
    let s = (all_hold (name_tests most_names _ _) _ c.if-fault-ne0.false c.name_fault-fault.ensures).0 in
    omega (arith, index_in _ s.table (c.find-i.ensures s.table s.slots), s.slots.room)

pub returns : goal.returns
returns c =
    let all = all_hold (name_tests most_names _ _) _ c.if-fault-ne0.false c.name_fault-fault.ensures in
    let s = all.0 in
    let i = c.find-i.ensures s.table s.slots in
    let stood = does_stand _ s.table (λ last. c.if-i-count.false (i ∙ last ∙ sym (c.count.ensures s.table s.slots))) in
    Finds.found s all.1.0 stood.found (ap Accepted i)
