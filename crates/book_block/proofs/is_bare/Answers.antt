use native.Mathlib.Omega.{arith}
use borrow.Author.Tests.{not-true, not-false}
use Rattle.base.proofs.Tests.{no_by, decides_as}
use Rattle.book_block.proofs.FaultLaws.{bare_held, bare_zeros, is_bare}
use borrow.Author.Rules.{rules}
use Rattle.book_block.proofs.is_bare.Goals as goal

pub overflow_cast-end : goal.overflow_cast-end
overflow_cast-end c = omega (arith, c.type_inv.slot 0)

pub overflow_add-end : goal.overflow_add-end
overflow_add-end c = omega (arith, c.type_inv.slot 0)

pub slice_bounds-is_canonical-end : goal.slice_bounds-is_canonical-end
slice_bounds-is_canonical-end c = omega (arith, c.type_inv.slot 0)

pub returns-then-not-is_canonical : goal.returns-then-not-is_canonical
returns-then-not-is_canonical c =
    let is = c.is_canonical in
    no_by (λ h. is.ensures.if_false c.if-not-is_canonical.true (bare_held c.args.slot.now c.requires (omega (arith, c.type_inv.slot 0)) h))

pub slice_bounds-are_zeros_at_once-count : goal.slice_bounds-are_zeros_at_once-count
slice_bounds-are_zeros_at_once-count c = omega (arith, c.type_inv.slot 0)

pub slice_bounds-are_zeros_at_once-start : goal.slice_bounds-are_zeros_at_once-start
slice_bounds-are_zeros_at_once-start c = omega (arith, c.type_inv.slot 0)

pub returns : goal.returns
returns c =
    let is = c.is_canonical in
    let s = c.args.slot.now in
    decides_as (is_bare s c.requires (omega (arith, c.type_inv.slot 0)) (is.ensures.if_true c.if-not-is_canonical.false)) (bare_zeros s c.requires (omega (arith, c.type_inv.slot 0))) c.are_zeros_at_once.ensures
