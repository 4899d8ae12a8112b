use native.Mathlib.Omega.{arith}
use borrow.Author.Rules.{rules}
use Rattle.book_block.proofs.WriteLaws.{slot_long, stands_by}
use Rattle.book_block.proofs.put_stands.Goals as goal

pub put-requires : goal.put-requires
put-requires c = omega (arith, slot_long c.args.slot.now c.requires.1)

pub returns : goal.returns
returns c = λ e well_formed same.
    stands_by c.args.block.now _ _ _ c.args.number c.requires.0 (slot_long c.args.slot.now c.requires.1) c.put.ensures c.frame.ensures e same
