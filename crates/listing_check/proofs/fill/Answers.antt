use Prim.Native.Nat.{◌-◌}
use mathlib.Core.Path.{◌≡◌}
use native.Mathlib.Omega.{arith}
use lib.ListN.{length}
use borrow.Author.Rules.{rules}
use Rattle.listing_check.proofs.BatchLaws.{SoFar, next_on, so_far_none, so_far_more, so_far_full, so_far_all}
use Rattle.listing_check.proofs.fill.Goals as goal

pub loop-next-init : goal.loop-next-init
loop-next-init c =
    (search rules, so_far_none c.args.text.now c.args.at c.args.out.now c.requires.printable)

pub returns-then-out-used-lt-LONGEST_LINE : goal.returns-then-out-used-lt-LONGEST_LINE
returns-then-out-used-lt-LONGEST_LINE c =
    so_far_full c.args.text.now c.args.at c.args.out.now c.loop-next.out _ c.loop-next.invariant.1 c.requires.longest_line_in_bounds (omega arith)

pub put_next-batch-requires : goal.put_next-batch-requires
put_next-batch-requires c =
    let front = c.loop-next.invariant.1.front in
    record { printable = (front.others, front.goes_on); longest_line_in_bounds = search rules }

pub loop-next-smaller : goal.loop-next-smaller
loop-next-smaller c =
    omega (arith, next_on c.args.text.now c.loop-next.next c.loop-next.out c.loop-next.used _ c.put_next-batch.result c.put_next-batch.ensures (omega arith))

pub loop-next-preserved : goal.loop-next-preserved
loop-next-preserved c = (
  search rules,
  so_far_more c.args.text.now c.args.at c.args.out.now c.loop-next.out _ c.loop-next.invariant.1 _ c.put_next-batch.result (omega arith) c.loop-next.invariant.0 c.put_next-batch.ensures,
)

pub returns : goal.returns
returns c =
    so_far_all c.args.text.now c.args.at c.args.out.now c.loop-next.out _ c.loop-next.invariant.1 (omega arith)
