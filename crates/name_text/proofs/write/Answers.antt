use mathlib.Core.Path.{refl, sym}
use native.Mathlib.Omega.{arith}
use Rattle.name_text.specs.Calls.{WritesText}
use Rattle.name_text.proofs.CallLaws.{within, area_size, front_size, write_short, write_whole}
use Rattle.name_text.proofs.write.Goals as goal

pub returns-then-not-is_proper : goal.returns-then-not-is_proper
returns-then-not-is_proper c = WritesText.not_proper (c.is_proper.ensures.if_false c.if-not-is_proper.true) c.refused.ensures refl

pub overflow_sub-n : goal.overflow_sub-n
overflow_sub-n c = omega (arith, (within _ (c.is_proper.ensures.if_true c.if-not-is_proper.false)).0)

pub returns-then-out-n : goal.returns-then-out-n
returns-then-out-n c =
    write_short _ (c.is_proper.ensures.if_true c.if-not-is_proper.false) _ _ _ c.if-out-n.true c.refused-then-out-n.ensures refl

pub put_canonical-requires : goal.put_canonical-requires
put_canonical-requires c =
    omega (arith, within _ (c.is_proper.ensures.if_true c.if-not-is_proper.false))

pub slice_bounds-bytes-end : goal.slice_bounds-bytes-end
slice_bounds-bytes-end c =
    let p = c.is_proper.ensures.if_true c.if-not-is_proper.false in
    omega (arith, within _ p, area_size _ p _ _ refl c.put_canonical.ensures)

pub slice_bounds-put_text-end : goal.slice_bounds-put_text-end
slice_bounds-put_text-end c =
    let p = c.is_proper.ensures.if_true c.if-not-is_proper.false in
    sym (front_size _ p _ _ refl c.put_canonical.ensures)

pub put_text-requires : goal.put_text-requires
put_text-requires c =
    let p = c.is_proper.ensures.if_true c.if-not-is_proper.false in
    omega (arith, front_size _ p _ _ refl c.put_canonical.ensures, within _ p, c.if-out-n.false)

pub overflow_sub-result : goal.overflow_sub-result
overflow_sub-result c =
    omega (arith, within _ (c.is_proper.ensures.if_true c.if-not-is_proper.false))

pub overflow_cast-result : goal.overflow_cast-result
overflow_cast-result c =
    omega (arith, within _ (c.is_proper.ensures.if_true c.if-not-is_proper.false))

pub returns : goal.returns
returns c =
    let p = c.is_proper.ensures.if_true c.if-not-is_proper.false in
    write_whole _ p _ _ _ _ _ c.put_canonical.ensures
    (omega (arith, c.if-out-n.false)) refl c.put_text.ensures
