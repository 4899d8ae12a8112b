use Prim.Native.Nat.{◌-◌}
use native.Mathlib.Omega.{arith}
use lib.ListN.{length}
use borrow.Author.Rules.{rules}
use Rattle.entry.proofs.KnownLaws.{entry_is}
use Rattle.listing.proofs.StepLaws.{Skipped, skipped_none, skipped_nothing, step_record, step_refused, step_end, step_over}
use Rattle.listing.proofs.step_at.Goals as goal

pub returns-then-text-gt-LISTING_LIMIT : goal.returns-then-text-gt-LISTING_LIMIT
returns-then-text-gt-LISTING_LIMIT c = let a = c.args in step_over a.text.now a.at (omega arith) c.no_record.result c.no_record.ensures

pub loop-i-init : goal.loop-i-init
loop-i-init c = let a = c.args in skipped_none a.text.now a.at

pub loop-i-smaller : goal.loop-i-smaller
loop-i-smaller c =
    let a = c.args in
    let t = a.text.now in
    let e = c.read_entry-entry in
    let is = entry_is t c.loop-i.i (omega arith) e.result e.ensures in
    omega (arith, is.on, is.within)

pub loop-i-preserved : goal.loop-i-preserved
loop-i-preserved c =
    let a = c.args in
    let t = a.text.now in
    let e = c.read_entry-entry in
    skipped_nothing t a.at c.loop-i.i c.loop-i.invariant (omega arith) e.result e.ensures c.in-Nothing.is

pub returns-in-Record : goal.returns-in-Record
returns-in-Record c =
    let a = c.args in
    let t = a.text.now in
    let e = c.read_entry-entry in
    step_record t a.at c.loop-i.i c.loop-i.invariant (omega arith) e.result e.ensures (omega arith) c.in-Record.is

pub returns-in-Fault : goal.returns-in-Fault
returns-in-Fault c =
    let a = c.args in
    let t = a.text.now in
    let e = c.read_entry-entry in
    step_refused t a.at c.loop-i.i c.loop-i.invariant (omega arith) e.result e.ensures _ (omega arith) c.in-Fault.is

pub returns : goal.returns
returns c =
    let a = c.args in
    step_end a.text.now a.at c.loop-i.i c.loop-i.invariant (omega arith) (omega arith) c.no_record-2.result c.no_record-2.ensures
