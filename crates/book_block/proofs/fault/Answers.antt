use mathlib.Core.Path.{sym, ◌∙◌}
use native.Mathlib.Omega.{arith}
use lib.ListN.{length-take}
use borrow.Author.Tests.{not-true, not-false}
use Rattle.book_block.specs.Promise.{BlockIs}
use Rattle.book_block.proofs.FaultLaws.{wrong_high, wrong_number, wrong_zeros, wrong_gone, wrong_stands, wrong_kind, fine_gone, fine_stands}
use borrow.Author.Rules.{rules}
use Rattle.book_block.proofs.fault.Goals as goal

pub returns-then-not-is_checked : goal.returns-then-not-is_checked
returns-then-not-is_checked c = BlockIs.check (c.is_checked.ensures.if_false c.if-not-is_checked.true)

pub returns-then-i-gt-MOST : goal.returns-then-i-gt-MOST
returns-then-i-gt-MOST c = wrong_high c.args.i c.args.block.now (c.is_checked.ensures.if_true c.if-not-is_checked.false) c.if-i-gt-MOST.true

pub slice_bounds-same-end : goal.slice_bounds-same-end
slice_bounds-same-end c = simp length-take (omega (arith, c.requires))

pub returns-then-not-same : goal.returns-then-not-same
returns-then-not-same c = wrong_number c.args.i c.args.block.now (c.is_checked.ensures.if_true c.if-not-is_checked.false) c.to_be32-number.result c.to_be32-number.ensures (sym c.same.ensures ∙ c.if-not-same.true)

pub returns-then-not-are_zeros_at_once : goal.returns-then-not-are_zeros_at_once
returns-then-not-are_zeros_at_once c = wrong_zeros c.args.i c.args.block.now (c.is_checked.ensures.if_true c.if-not-is_checked.false) (c.are_zeros_at_once.ensures.if_false c.if-not-are_zeros_at_once.true)

pub returns-then-is_bare : goal.returns-then-is_bare
returns-then-is_bare c = fine_gone c.args.i c.args.block.now (c.is_checked.ensures.if_true c.if-not-is_checked.false) c.requires (omega (arith, c.if-i-gt-MOST.false)) c.to_be32-number.result c.to_be32-number.ensures (sym c.same.ensures ∙ c.if-not-same.false) (c.are_zeros_at_once.ensures.if_true c.if-not-are_zeros_at_once.false) c.if-block-eq-GONE.true (c.is_bare.ensures.if_true c.if-is_bare.true)

pub returns-then-block-eq-GONE : goal.returns-then-block-eq-GONE
returns-then-block-eq-GONE c = wrong_gone c.args.i c.args.block.now (c.is_checked.ensures.if_true c.if-not-is_checked.false) c.if-block-eq-GONE.true (c.is_bare.ensures.if_false c.if-is_bare.false)

pub returns-then-is_slot : goal.returns-then-is_slot
returns-then-is_slot c = fine_stands c.args.i c.args.block.now (c.is_checked.ensures.if_true c.if-not-is_checked.false) c.requires (omega (arith, c.if-i-gt-MOST.false)) c.to_be32-number.result c.to_be32-number.ensures (sym c.same.ensures ∙ c.if-not-same.false) (c.are_zeros_at_once.ensures.if_true c.if-not-are_zeros_at_once.false) c.if-block-eq-STANDS.true (c.is_slot.ensures.if_true c.if-is_slot.true)

pub returns-then-block-eq-STANDS : goal.returns-then-block-eq-STANDS
returns-then-block-eq-STANDS c = wrong_stands c.args.i c.args.block.now (c.is_checked.ensures.if_true c.if-not-is_checked.false) c.if-block-eq-STANDS.true (c.is_slot.ensures.if_false c.if-is_slot.false)

pub returns : goal.returns
returns c = wrong_kind c.args.i c.args.block.now (c.is_checked.ensures.if_true c.if-not-is_checked.false) c.if-block-eq-GONE.false c.if-block-eq-STANDS.false
