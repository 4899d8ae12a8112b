use mathlib.Core.Path.{subst}
use borrow.Author.Rules.{rules}
use Rattle.listing.proofs.Theorems.{some_giving}
use Rattle.slots.specs.Sizes.{most_names}
use Rattle.table_fault.specs.Sweeping.{Faultless, Sweeps}
use Rattle.table_fault.proofs.FaultLaws.{judges_refused, judges_repeat, judges_beyond, judges_long, judges_whole}
use Rattle.table_fault.proofs.judge.Goals as goal

pub returns-then-text-gt-LISTING_LIMIT : goal.returns-then-text-gt-LISTING_LIMIT
returns-then-text-gt-LISTING_LIMIT c = λ rs l g. judges_long _ rs _ l _ c.if-text-gt-LISTING_LIMIT.true g c.refused.ensures c.without_slots.ensures

pub fault_beyond-requires : goal.fault_beyond-requires
unfolding Faultless
fault_beyond-requires c =
    let k = c.sweep in
    let t = c.args.text.now in
    let g = some_giving t 0 in
    let b = (subst (Sweeps t 0 most_names g.0 g.1 _ _) c.in-Beyond.is (k.ensures g.0 g.1 g.2)).1 in
    (search rules, search rules, (b.left, b.gives))

pub returns-in-Fault : goal.returns-in-Fault
returns-in-Fault c =
    let k = c.sweep in
    λ rs l g. judges_refused rs _ l _ _ (subst (Sweeps _ 0 most_names rs l _ _) c.in-Fault.is (k.ensures rs l g)) c.without_slots-in-Fault.ensures

pub returns-in-Repeat : goal.returns-in-Repeat
returns-in-Repeat c =
    let k = c.sweep in
    λ rs l g.
    let h = subst (Sweeps _ 0 most_names rs l _ _) c.in-Repeat.is (k.ensures rs l g) in
    judges_repeat rs _ l _ h.0 (c.fault_after.ensures h.1.0 l h.1.1) c.without_slots-in-Repeat.ensures

pub returns-in-Whole : goal.returns-in-Whole
returns-in-Whole c =
    let k = c.sweep in
    λ rs l g. judges_whole rs _ l (subst (Sweeps _ 0 most_names rs l _ _) c.in-Whole.is (k.ensures rs l g))

pub returns-in-Beyond : goal.returns-in-Beyond
returns-in-Beyond c =
    let k = c.sweep in
    λ rs l g.
    let h = subst (Sweeps _ 0 most_names rs l _ _) c.in-Beyond.is (k.ensures rs l g) in
    judges_beyond rs _ _ l _ _ _ h.0 h.1 (c.fault_beyond.ensures h.1.left h.1.gives) c.refused-in-Beyond.ensures c.without_slots-in-Beyond.ensures
