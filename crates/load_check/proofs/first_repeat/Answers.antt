use Prim.Native.Nat.{◌-◌, ◌≤◌}
use mathlib.Core.List.{List}
use native.Mathlib.Omega.{arith}
use lib.ListN.{length}
use borrow.Author.Rules.{rules}
use Rattle.entry.proofs.KnownLaws.{entry_is}
use Rattle.grammar.specs.Listing.{ResourceRecord}
use Rattle.listing.specs.Giving.{end, Gives}
use Rattle.load_check.specs.Loading.{Repeated}
use Rattle.load_check.proofs.ReachedLaws.{turn}
use Rattle.load_check.proofs.RepeatLaws.{Unrepeated, unrepeated_none, unrepeated_more, unrepeated_all, repeat_found}
use Rattle.load_check.proofs.first_repeat.Goals as goal

pub loop-at-init : goal.loop-at-init
loop-at-init c = λ rs g. unrepeated_none _ rs g

pub returns-then-first-at : goal.returns-then-first-at
unfolding Repeated
returns-then-first-at c =
    let e = c.read_entry-entry in
    let l = c.loop-at in
    let t = c.args.text.now in
    let rs = c.requires.0 in
    let d = l.invariant rs c.requires.1 in
    repeat_found t rs l.at d e.result (turn t rs d.seen l.at d.reached (omega arith) e.result e.ensures) c.first_alike-first.result c.first_alike-first.ensures c.if-first-at.true

pub loop-at-smaller : goal.loop-at-smaller
loop-at-smaller c =
    let e = c.read_entry-entry in
    let l = c.loop-at in
    let t = c.args.text.now in
    let is = entry_is t l.at (omega arith) e.result e.ensures in
    omega (arith, is.on, is.within)

pub loop-at-preserved : goal.loop-at-preserved
loop-at-preserved c =
    let e = c.read_entry-entry in
    let l = c.loop-at in
    let t = c.args.text.now in
    λ rs g.
    let d = l.invariant rs g in
    unrepeated_more t rs l.at d e.result (turn t rs d.seen l.at d.reached (omega arith) e.result e.ensures) c.first_alike-first.result c.first_alike-first.ensures (omega arith)

pub returns : goal.returns
unfolding Repeated
returns c =
    let l = c.loop-at in
    absurd (c.requires.2 (unrepeated_all c.args.text.now c.requires.0 l.at (l.invariant c.requires.0 c.requires.1) (omega arith)))
