use Rattle.block.proofs.SealedLaws.{seal_by}
use native.Mathlib.Omega.{arith}
use lib.ListN.{length-take}
use borrow.Author.Rules.{rules}
use Rattle.block.proofs.seal.Goals as goal

pub slice_bounds-digest_of-end-2 : goal.slice_bounds-digest_of-end-2
slice_bounds-digest_of-end-2 c = simp length-take (omega (arith, c.requires))

pub returns : goal.returns
returns c = seal_by c.args.block.now c.digest_of-digest.result c.put.new.to c.requires c.digest_of-digest.ensures c.put.ensures
