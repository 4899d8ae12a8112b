use native.Mathlib.Omega.{arith}
use lib.ListN.{length, length-set}
use borrow.Author.Rules.{rules}
use Rattle.name.proofs.WireLaws.{proper_short}
use Rattle.book_block.proofs.WriteLaws.{gone_by}
use Rattle.book_block.proofs.put_gone.Goals as goal

pub overflow_cast-block : goal.overflow_cast-block
overflow_cast-block c = omega (arith, proper_short c.args.name.now c.requires.1)

pub put_canonical-requires : goal.put_canonical-requires
put_canonical-requires c =
    let n = c.args.name.now in
    omega (arith, proper_short n c.requires.1, length-set c.args.block.now 5 (length n))

pub overflow_sub-end : goal.overflow_sub-end
overflow_sub-end c = omega (arith, proper_short c.args.name.now c.requires.1)

pub put_zeros-requires : goal.put_zeros-requires
put_zeros-requires c =
    let n = c.args.name.now in
    omega (arith, proper_short n c.requires.1, length-set c.args.block.now 5 (length n))

pub frame-requires : goal.frame-requires
frame-requires c =
    omega (arith, length-set c.args.block.now 5 (length c.args.name.now))

pub shape_of-block : goal.shape_of-block
shape_of-block c =
    omega (arith, length-set c.args.block.now 5 (length c.args.name.now))

pub returns : goal.returns
returns c =
    gone_by c.args.name.now c.requires.1 c.args.block.now _ _ _ c.args.number c.requires.0 c.put_canonical.ensures c.put_zeros.ensures
    c.frame.ensures
