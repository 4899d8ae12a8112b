use mathlib.Core.Path.{refl}
use Rattle.slots.specs.Sizes.{most_names}
use Rattle.table.specs.Calls.{name_tests, Clears}
use Rattle.table.proofs.ArgumentLaws.{all_hold, the_fault, faulty, stepped}
use borrow.Author.Rules.{rules}
use Rattle.table.proofs.clear.Goals as goal

pub returns-then-fault-ne0 : goal.returns-then-fault-ne0
unfolding Clears
returns-then-fault-ne0 c =
    let f = c.name_fault-fault in
    faulty most_names (name_tests most_names _ _) _ _ _ _ f.result (the_fault (name_tests most_names _ _) f.result c.if-fault-ne0.true f.ensures) c.refused.ensures refl

pub clear-requires : goal.clear-requires
clear-requires c = (all_hold (name_tests most_names _ _) _ c.if-fault-ne0.false c.name_fault-fault.ensures).0

pub returns : goal.returns
unfolding Clears
returns c =
    let all = all_hold (name_tests most_names _ _) _ c.if-fault-ne0.false c.name_fault-fault.ensures in
    stepped most_names (name_tests most_names _ _) _ _ _ _ all all.0 (c.clear.ensures all.0.table all.0.slots)
