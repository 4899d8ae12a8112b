use native.Mathlib.Omega.{arith}
use lib.ListN.{length-set}
use borrow.Author.Rules.{rules}
use Rattle.book_block.proofs.WriteLaws.{frame_by}
use Rattle.book_block.proofs.frame.Goals as goal

pub put_zeros-requires : goal.put_zeros-requires
put_zeros-requires c = omega (arith, length-set c.put.new.to 4 c.args.kind)

pub seal-requires : goal.seal-requires
seal-requires c = omega (arith, length-set c.put.new.to 4 c.args.kind)

pub shape_of-block : goal.shape_of-block
shape_of-block c = omega (arith, length-set c.put.new.to 4 c.args.kind)

pub returns : goal.returns
returns c =
    frame_by c.args.block.now _ _ _ _ c.args.number c.args.kind c.requires c.to_be32-bytes.ensures c.put.ensures
    c.put_zeros.ensures c.seal.ensures
