use Prim.Native.Nat.{◌-◌}
use mathlib.Core.Path.{◌≡◌, refl, ◌∙◌}
use mathlib.Core.List.{List}
use lib.ListN.{length}
use borrow.Author.Rules.{rules}
use Rattle.grammar.specs.Listing.{ResourceRecord}
use Rattle.listing.specs.Giving.{end, Gives}
use Rattle.table_fault.specs.Sweeping.{Faultless}
use Rattle.table_fault.proofs.FaultLaws.{Sought, sought_none, sought_repeat, sought_whole, sought_fault, sought_on, sought_more}
use Rattle.table_fault.proofs.fault_beyond.Goals as goal

pub loop-next-init : goal.loop-next-init
loop-next-init c = (refl, λ rs g. sought_none _ _ rs g)

pub sweep-requires : goal.sweep-requires
sweep-requires c = (c.requires.0, c.loop-next.invariant.0 ∙ c.requires.1)

pub returns-in-Repeat : goal.returns-in-Repeat
returns-in-Repeat c =
    let k = c.sweep in
    λ rs g.
    let s = c.loop-next.invariant.1 rs g in
    sought_repeat _ _ rs s _ _ k.result (k.ensures s.left end s.gives) _ c.in-Repeat.is

pub returns-in-Whole : goal.returns-in-Whole
returns-in-Whole c =
    let k = c.sweep in
    λ rs g.
    let s = c.loop-next.invariant.1 rs g in
    sought_whole _ _ rs s _ _ k.result (k.ensures s.left end s.gives) c.in-Whole.is

pub loop-next-smaller : goal.loop-next-smaller
unfolding Faultless
loop-next-smaller c =
    let k = c.sweep in
    let p = c.requires.2 in
    let s = c.loop-next.invariant.1 p.0 p.1 in
    sought_on _ _ p.0 s _ _ k.result (k.ensures s.left end s.gives) _ c.in-Beyond.is

pub loop-next-preserved : goal.loop-next-preserved
loop-next-preserved c =
    let k = c.sweep in (
      search rules,
      λ rs g.
          let s = c.loop-next.invariant.1 rs g in
          sought_more _ _ rs s _ _ k.result (k.ensures s.left end s.gives) _ c.in-Beyond.is,
    )

pub returns-in-Fault : goal.returns-in-Fault
returns-in-Fault c =
    let k = c.sweep in
    λ rs g.
    let s = c.loop-next.invariant.1 rs g in
    absurd (sought_fault _ _ rs s _ _ k.result (k.ensures s.left end s.gives) _ _ c.in-Fault.is)
