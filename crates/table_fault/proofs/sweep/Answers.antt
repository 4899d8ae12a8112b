use Prim.Native.Nat.{◌-◌}
use mathlib.Core.Path.{sym, ap, subst, ◌∙◌}
use mathlib.Core.List.{List}
use native.Mathlib.Omega.{arith}
use lib.ListN.{length, length-set}
use borrow.Author.Rules.{rules}
use Rattle.grammar.specs.Listing.{ResourceRecord}
use Rattle.listing.specs.Giving.{Last, Gives}
use Rattle.listing.proofs.Theorems.{some_giving}
use Rattle.records.specs.Gathered.{owners}
use Rattle.slots.specs.Sizes.{most_names}
use Rattle.table_fault.specs.Sweeping.{SomeMarked, Sweeps}
use Rattle.table_fault.proofs.GivenLaws.{end_given}
use Rattle.table_fault.proofs.SweepLaws.{SweptTo, swept_none, index_low, repeated, ended_sweeps}
use Rattle.table_fault.proofs.TypeLaws.{bit_some, bit_small, flagged_small}
use Rattle.table_fault.proofs.TurnLaws.{swept_still, swept_known, swept_new, swept_beyond, swept_past}
use Rattle.table_fault.proofs.sweep.Goals as goal

pub loop-at-init : goal.loop-at-init
loop-at-init c = λ rs l g. swept_none _ _ l _ rs _ _ _ g (search rules) (search rules) (search rules) c.requires.1

pub slice_bounds-look-end : goal.slice_bounds-look-end
slice_bounds-look-end c =
    let g = some_giving c.args.text.now c.args.from in
    let w = c.loop-at.invariant g.0 g.1 g.2 in
    sym w.starts_size

pub slice_bounds-look-end-in-loop-at : goal.slice_bounds-look-end-in-loop-at
slice_bounds-look-end-in-loop-at c =
    let g = some_giving c.args.text.now c.args.from in
    let w = c.loop-at.invariant g.0 g.1 g.2 in
    sym w.marks_size

pub look-seen-requires : goal.look-seen-requires
unfolding SomeMarked
look-seen-requires c =
    let g = some_giving c.args.text.now c.args.from in
    let w = c.loop-at.invariant g.0 g.1 g.2 in
    (c.requires.0, c.loop-at-test.true, omega (arith, w.room, w.starts_size), omega (arith, w.room, w.marks_size), (owners w.before, w.long, w.kept))

pub overflow_cast-result : goal.overflow_cast-result
overflow_cast-result c = omega (arith, c.requires.0)

pub shape_of-slots-then-seen : goal.shape_of-slots-then-seen
shape_of-slots-then-seen c =
    let g = some_giving c.args.text.now c.args.from in
    let w = c.loop-at.invariant g.0 g.1 g.2 in
    w.slots_size ∙ sym c.requires.1

pub returns-then-seen : goal.returns-then-seen
returns-then-seen c =
    let k = c.look-seen in
    λ rs l g.
    let w = c.loop-at.invariant rs l g in
    let s = k.ensures (owners w.before) w.long w.kept in
    s.fault c.if-seen.true w.ahead l w.gives

pub note-count-requires : goal.note-count-requires
note-count-requires c =
    let g = some_giving c.args.text.now c.args.from in
    let w = c.loop-at.invariant g.0 g.1 g.2 in
    let k = c.look-seen in
    let m = (k.ensures (owners w.before) w.long w.kept).met c.if-seen-2.true w.ahead g.1 w.gives in
    (omega (arith, w.few, c.requires.0), omega (arith, w.room, w.long, index_low (owners w.before) m.head.owner k.result.index m.there))

pub bounds-types-i : goal.bounds-types-i
bounds-types-i c =
    let g = some_giving c.args.text.now c.args.from in
    let w = c.loop-at.invariant g.0 g.1 g.2 in
    omega (arith, w.room, w.types_size)

pub nonzero_div-types : goal.nonzero_div-types
nonzero_div-types c =
    let g = some_giving c.args.text.now c.args.from in
    let w = c.loop-at.invariant g.0 g.1 g.2 in
    let k = c.look-seen in
    let m = (k.ensures (owners w.before) w.long w.kept).met c.if-seen-2.true w.ahead g.1 w.gives in
    omega (arith, m.bit, bit_some m.head.rtype)

pub shape_of-slots-then-types-i-eq1 : goal.shape_of-slots-then-types-i-eq1
shape_of-slots-then-types-i-eq1 c =
    let g = some_giving c.args.text.now c.args.from in
    let w = c.loop-at.invariant g.0 g.1 g.2 in
    ap length c.note-count.ensures.1 ∙ length-set c.loop-at.slots c.loop-at.count c.look-seen.result.index ∙ w.slots_size ∙ sym c.requires.1

pub returns-then-types-i-eq1 : goal.returns-then-types-i-eq1
returns-then-types-i-eq1 c =
    let k = c.look-seen in
    λ rs l g.
    let w = c.loop-at.invariant rs l g in
    let s = k.ensures (owners w.before) w.long w.kept in
    let m = s.met c.if-seen-2.true w.ahead l w.gives in
    repeated _ _ l _ w k.result m c.if-i-used.true c.if-types-i-eq1.true

pub bounds-types-i-then-i-used : goal.bounds-types-i-then-i-used
bounds-types-i-then-i-used c =
    let g = some_giving c.args.text.now c.args.from in
    let w = c.loop-at.invariant g.0 g.1 g.2 in
    omega (arith, w.room, w.types_size)

pub overflow_add-types : goal.overflow_add-types
overflow_add-types c =
    let g = some_giving c.args.text.now c.args.from in
    let w = c.loop-at.invariant g.0 g.1 g.2 in
    let k = c.look-seen in
    let m = (k.ensures (owners w.before) w.long w.kept).met c.if-seen-2.true w.ahead g.1 w.gives in
    omega (arith, m.bit, bit_small m.head.rtype, flagged_small (w.flags k.result.index c.if-i-used.true))

pub bounds-types-i-then-i-used-2 : goal.bounds-types-i-then-i-used-2
bounds-types-i-then-i-used-2 c =
    let g = some_giving c.args.text.now c.args.from in
    let w = c.loop-at.invariant g.0 g.1 g.2 in
    omega (arith, w.room, w.types_size)

pub loop-at-smaller-then-i-used : goal.loop-at-smaller-then-i-used
loop-at-smaller-then-i-used c =
    let g = some_giving c.args.text.now c.args.from in
    let w = c.loop-at.invariant g.0 g.1 g.2 in
    omega (arith, (c.look-seen.ensures (owners w.before) w.long w.kept).on)

pub loop-at-preserved-then-i-used : goal.loop-at-preserved-then-i-used
loop-at-preserved-then-i-used c =
    let k = c.look-seen in
    λ rs l g.
    let w = c.loop-at.invariant rs l g in
    let s = k.ensures (owners w.before) w.long w.kept in
    let m = s.met c.if-seen-2.true w.ahead l w.gives in
    let n = c.note-count in
    swept_known _ _ l _ w k.result s.on m _ _ n.ensures.1 n.ensures.0 c.if-i-used.true c.if-types-i-eq1.false

pub overflow_cast-starts : goal.overflow_cast-starts
overflow_cast-starts c = omega (arith, c.requires.0)

pub loop-at-smaller-then-i-lt-SLOTS : goal.loop-at-smaller-then-i-lt-SLOTS
loop-at-smaller-then-i-lt-SLOTS c =
    let g = some_giving c.args.text.now c.args.from in
    let w = c.loop-at.invariant g.0 g.1 g.2 in
    omega (arith, (c.look-seen.ensures (owners w.before) w.long w.kept).on)

pub loop-at-preserved-then-i-lt-SLOTS : goal.loop-at-preserved-then-i-lt-SLOTS
loop-at-preserved-then-i-lt-SLOTS c =
    let k = c.look-seen in
    λ rs l g.
    let w = c.loop-at.invariant rs l g in
    let s = k.ensures (owners w.before) w.long w.kept in
    let m = s.met c.if-seen-2.true w.ahead l w.gives in
    let n = c.note-count in
    swept_new _ _ l _ w k.result s.on m _ _ n.ensures.1 n.ensures.0 c.if-i-used.false c.if-i-lt-SLOTS.true

pub loop-at-smaller-then-rest-text : goal.loop-at-smaller-then-rest-text
loop-at-smaller-then-rest-text c =
    let g = some_giving c.args.text.now c.args.from in
    let w = c.loop-at.invariant g.0 g.1 g.2 in
    omega (arith, (c.look-seen.ensures (owners w.before) w.long w.kept).on)

pub loop-at-preserved-then-rest-text : goal.loop-at-preserved-then-rest-text
loop-at-preserved-then-rest-text c =
    let k = c.look-seen in
    λ rs l g.
    let w = c.loop-at.invariant rs l g in
    let s = k.ensures (owners w.before) w.long w.kept in
    let m = s.met c.if-seen-2.true w.ahead l w.gives in
    let n = c.note-count in
    swept_beyond _ _ l _ w k.result s.on m _ _ n.ensures.1 n.ensures.0 c.if-i-used.false c.if-i-lt-SLOTS.false c.loop-at-test.true c.if-rest-text.true

pub loop-at-smaller-else-rest-text : goal.loop-at-smaller-else-rest-text
loop-at-smaller-else-rest-text c =
    let g = some_giving c.args.text.now c.args.from in
    let w = c.loop-at.invariant g.0 g.1 g.2 in
    omega (arith, (c.look-seen.ensures (owners w.before) w.long w.kept).on)

pub loop-at-preserved-else-rest-text : goal.loop-at-preserved-else-rest-text
loop-at-preserved-else-rest-text c =
    let k = c.look-seen in
    λ rs l g.
    let w = c.loop-at.invariant rs l g in
    let s = k.ensures (owners w.before) w.long w.kept in
    let m = s.met c.if-seen-2.true w.ahead l w.gives in
    let n = c.note-count in
    swept_past _ _ l _ w k.result s.on m _ _ n.ensures.1 n.ensures.0 c.if-i-used.false c.if-i-lt-SLOTS.false c.loop-at-test.true c.if-rest-text.false

pub loop-at-smaller : goal.loop-at-smaller
loop-at-smaller c =
    let g = some_giving c.args.text.now c.args.from in
    let w = c.loop-at.invariant g.0 g.1 g.2 in
    omega (arith, (c.look-seen.ensures (owners w.before) w.long w.kept).on)

pub loop-at-preserved : goal.loop-at-preserved
loop-at-preserved c =
    let k = c.look-seen in
    λ rs l g.
    let w = c.loop-at.invariant rs l g in
    let s = k.ensures (owners w.before) w.long w.kept in
    swept_still _ _ l _ w k.result.next s.on (s.nothing c.if-seen.false c.if-seen-2.false w.ahead l w.gives)

pub shape_of-slots : goal.shape_of-slots
shape_of-slots c =
    let g = some_giving c.args.text.now c.args.from in
    let w = c.loop-at.invariant g.0 g.1 g.2 in
    w.slots_size ∙ sym c.requires.1

pub returns : goal.returns
returns c =
    λ rs l g.
    let w = c.loop-at.invariant rs l g in
    let last = end_given c.args.text.now c.requires.0 _ w.ahead l w.gives c.loop-at-test.false in
    subst (Sweeps _ _ most_names rs l _ _) (sym c.ended.ensures) (ended_sweeps _ _ l _ w last.0 last.1)
