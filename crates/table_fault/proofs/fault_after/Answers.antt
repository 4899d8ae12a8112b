use Prim.Native.Nat.{◌-◌}
use mathlib.Core.Path.{sym, ap, ◌∙◌}
use mathlib.Core.List.{List}
use native.Mathlib.Omega.{arith}
use lib.ListN.{length}
use borrow.Author.Rules.{rules}
use Rattle.entry.proofs.KnownLaws.{entry_is}
use Rattle.grammar.specs.Listing.{ResourceRecord}
use Rattle.listing.specs.Giving.{Last, Gives}
use Rattle.table_fault.specs.Sweeping.{fault_or}
use Rattle.table_fault.proofs.GivenLaws.{end_given, fault_given, nothing_given, record_given}
use Rattle.table_fault.proofs.fault_after.Goals as goal

pub loop-at-init : goal.loop-at-init
loop-at-init c = λ rs l g. (rs, g)

pub returns-in-Fault : goal.returns-in-Fault
returns-in-Fault c =
    let t = c.args.text.now in
    let l = c.loop-at in
    let e = c.read_entry-entry in
    λ rs last g.
    let k = l.invariant rs last g in
    sym (ap (fault_or 35) (fault_given t c.requires l.at k.0 last k.1 (omega arith) e.result e.ensures _ c.in-Fault.is))

pub loop-at-smaller-in-Nothing : goal.loop-at-smaller-in-Nothing
loop-at-smaller-in-Nothing c =
    let t = c.args.text.now in
    let l = c.loop-at in
    let e = c.read_entry-entry in
    let is = entry_is t l.at (omega arith) e.result e.ensures in
    omega (arith, is.on, is.within)

pub loop-at-preserved-in-Nothing : goal.loop-at-preserved-in-Nothing
loop-at-preserved-in-Nothing c =
    let t = c.args.text.now in
    let l = c.loop-at in
    let e = c.read_entry-entry in
    λ rs last g.
    let k = l.invariant rs last g in
    (k.0, nothing_given t c.requires l.at k.0 last k.1 (omega arith) e.result e.ensures c.in-Nothing.is)

pub loop-at-smaller : goal.loop-at-smaller
loop-at-smaller c =
    let t = c.args.text.now in
    let l = c.loop-at in
    let e = c.read_entry-entry in
    let is = entry_is t l.at (omega arith) e.result e.ensures in
    omega (arith, is.on, is.within)

pub loop-at-preserved : goal.loop-at-preserved
loop-at-preserved c =
    let t = c.args.text.now in
    let l = c.loop-at in
    let e = c.read_entry-entry in
    λ rs last g.
    let k = l.invariant rs last g in
    let f = record_given t c.requires l.at k.0 last k.1 (omega arith) e.result e.ensures c.in-Record.is in
    (f.later, f.gives)

pub returns : goal.returns
returns c =
    let l = c.loop-at in
    λ rs last g.
    let k = l.invariant rs last g in
    c.refused.ensures ∙ sym (ap (fault_or 35) (end_given c.args.text.now c.requires l.at k.0 last k.1 (omega arith)).1)
