use Prim.Native.Nat.{◌-◌, ◌≤◌}
use mathlib.Core.Path.{sym, ◌∙◌}
use mathlib.Core.List.{List}
use native.Mathlib.Omega.{arith}
use lib.ListN.{length}
use borrow.Author.Rules.{rules}
use Rattle.entry.proofs.KnownLaws.{entry_is}
use Rattle.load_check.specs.Loading.{Entered}
use Rattle.load_check.specs.Walking.{Walked}
use Rattle.load_check.proofs.WalkLaws.{Sought, sought_none, sought_found, sought_more, sought_all}
use Rattle.load_check.proofs.earlier.Goals as goal

pub loop-at-init : goal.loop-at-init
loop-at-init c = λ es w. sought_none _ _ _ _ es w

pub read_entry-entry-requires : goal.read_entry-entry-requires
read_entry-entry-requires c = omega (arith, c.requires)

pub returns-then-is_like : goal.returns-then-is_like
returns-then-is_like c =
    let e = c.read_entry-entry in
    let l = c.loop-at in
    λ es w some.
    sought_found _ _ _ _ es l.at (l.invariant es w) e.result e.ensures some c.loop-at-test.true (sym c.is_like.ensures ∙ c.if-is_like.true)

pub loop-at-smaller : goal.loop-at-smaller
loop-at-smaller c =
    let e = c.read_entry-entry in
    let l = c.loop-at in
    let is = entry_is c.args.text.now l.at (omega (arith, c.requires)) e.result e.ensures in
    omega (arith, is.on)

pub loop-at-preserved : goal.loop-at-preserved
loop-at-preserved c =
    let e = c.read_entry-entry in
    let l = c.loop-at in
    λ es w.
    sought_more _ _ _ _ es l.at (l.invariant es w) e.result e.ensures c.loop-at-test.true (sym c.is_like.ensures ∙ c.if-is_like.false)

pub returns : goal.returns
returns c =
    let l = c.loop-at in
    λ es w some. sought_all _ _ _ _ es l.at (l.invariant es w) (omega arith)
