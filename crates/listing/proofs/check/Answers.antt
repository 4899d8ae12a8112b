use Prim.Native.Nat.{◌-◌}
use native.Mathlib.Omega.{arith}
use lib.ListN.{length}
use borrow.Author.Rules.{rules}
use Rattle.entry.proofs.KnownLaws.{entry_is}
use Rattle.listing.proofs.CheckLaws.{Counted, counted_none, counted_nothing, counted_record, refused_there, all_counted, over_limit}
use Rattle.listing.proofs.check.Goals as goal

pub returns-then-text-gt-LISTING_LIMIT : goal.returns-then-text-gt-LISTING_LIMIT
returns-then-text-gt-LISTING_LIMIT c = over_limit c.args.text.now (omega arith)

pub loop-at-init : goal.loop-at-init
loop-at-init c = counted_none c.args.text.now

pub overflow_add-count : goal.overflow_add-count
overflow_add-count c =
    let t = c.args.text.now in
    let e = c.read_entry-entry in
    omega (arith, c.loop-at.invariant.few, c.loop-at.invariant.fits)

pub overflow_cast-result : goal.overflow_cast-result
overflow_cast-result c =
    let t = c.args.text.now in
    let e = c.read_entry-entry in
    omega (arith, c.loop-at.invariant.fits)

pub returns-in-Fault : goal.returns-in-Fault
returns-in-Fault c =
    let t = c.args.text.now in
    let e = c.read_entry-entry in
    refused_there t c.loop-at.at c.loop-at.count c.loop-at.invariant (omega arith) e.result e.ensures _ (omega arith) c.in-Fault.is

pub loop-at-smaller-in-Nothing : goal.loop-at-smaller-in-Nothing
loop-at-smaller-in-Nothing c =
    let t = c.args.text.now in
    let e = c.read_entry-entry in
    let is = entry_is t c.loop-at.at (omega arith) e.result e.ensures in
    omega (arith, is.on, is.within)

pub loop-at-preserved-in-Nothing : goal.loop-at-preserved-in-Nothing
loop-at-preserved-in-Nothing c =
    let t = c.args.text.now in
    let e = c.read_entry-entry in
    counted_nothing t c.loop-at.at c.loop-at.count c.loop-at.invariant (omega arith) e.result e.ensures c.in-Nothing.is

pub loop-at-smaller : goal.loop-at-smaller
loop-at-smaller c =
    let t = c.args.text.now in
    let e = c.read_entry-entry in
    let is = entry_is t c.loop-at.at (omega arith) e.result e.ensures in
    omega (arith, is.on, is.within)

pub loop-at-preserved : goal.loop-at-preserved
loop-at-preserved c =
    let t = c.args.text.now in
    let e = c.read_entry-entry in
    counted_record t c.loop-at.at c.loop-at.count c.loop-at.invariant (omega arith) e.result e.ensures c.in-Record.is

pub returns : goal.returns
returns c =
    let t = c.args.text.now in
    all_counted t c.loop-at.at c.loop-at.count c.loop-at.invariant (omega arith) (omega arith)
