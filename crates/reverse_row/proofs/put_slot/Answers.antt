use native.Mathlib.Omega.{arith}
use lib.ListN.{length, length-set}
use borrow.Author.Rules.{rules}
use Rattle.reverse_row.proofs.WriteLaws.{slot_by_lem}
use Rattle.reverse_row.proofs.put_slot.Goals as goal

pub put_canonical-requires : goal.put_canonical-requires
put_canonical-requires c =
    omega (arith, c.requires.2, length-set c.put.new.to 17 (length c.args.name.now))

pub put_zeros-requires : goal.put_zeros-requires
put_zeros-requires c =
    omega (arith, c.requires.2, length-set c.put.new.to 17 (length c.args.name.now))

pub shape_of-slot : goal.shape_of-slot
shape_of-slot c =
    omega (arith, length-set c.put.new.to 17 (length c.args.name.now))

pub returns : goal.returns
returns c =
    let a = c.args in
    slot_by_lem a.slot.now _ _ _ _ a.family a.address.now a.name.now c.requires.0 c.requires.1 c.requires.2 c.key_of-key.ensures c.put.ensures
    c.put_canonical.ensures c.put_zeros.ensures
