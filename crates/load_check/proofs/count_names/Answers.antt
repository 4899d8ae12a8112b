use Prim.Native.Nat.{◌-◌, ◌≤◌}
use mathlib.Core.List.{List}
use native.Mathlib.Omega.{arith}
use lib.ListN.{length}
use borrow.Author.Rules.{rules}
use Rattle.entry.proofs.KnownLaws.{entry_is}
use Rattle.grammar.specs.Listing.{ResourceRecord}
use Rattle.listing.specs.Giving.{end, Gives}
use Rattle.load_check.proofs.NameLaws.{Counted, counted_none, counted_more, counted_all}
use Rattle.load_check.proofs.ReachedLaws.{turn}
use Rattle.load_check.proofs.count_names.Goals as goal

pub loop-at-init : goal.loop-at-init
loop-at-init c = (omega arith, omega arith, λ rs g. counted_none _ rs g)

pub overflow_add-count : goal.overflow_add-count
overflow_add-count c = let l = c.loop-at in omega (arith, l.invariant.0, c.names_added-count.ensures.most)

pub loop-at-smaller : goal.loop-at-smaller
loop-at-smaller c =
    let e = c.read_entry-entry in
    let l = c.loop-at in
    let t = c.args.text.now in
    let is = entry_is t l.at (omega arith) e.result e.ensures in
    omega (arith, is.on, is.within)

pub loop-at-preserved : goal.loop-at-preserved
loop-at-preserved c =
    let e = c.read_entry-entry in
    let l = c.loop-at in
    let t = c.args.text.now in
    let is = entry_is t l.at (omega arith) e.result e.ensures in (
      omega (arith, l.invariant.0, is.on, c.names_added-count.ensures.most),
      is.within,
      λ rs g.
          let d = l.invariant.2 rs g in
          counted_more t rs l.at l.count d e.result (turn t rs d.seen l.at d.reached (omega arith) e.result e.ensures) _ c.names_added-count.ensures,
    )

pub returns : goal.returns
returns c = let l = c.loop-at in λ rs g. counted_all _ rs l.at l.count (l.invariant.2 rs g) (omega arith)
