use Rattle.block.proofs.SealedLaws.{check_by, behind_body}
use native.Mathlib.Omega.{arith}
use lib.ListN.{length-take}
use borrow.Author.Rules.{rules}
use Rattle.block.proofs.is_checked.Goals as goal

pub slice_bounds-digest_of-end : goal.slice_bounds-digest_of-end
slice_bounds-digest_of-end c = simp length-take (omega (arith, c.requires))

pub returns : goal.returns
returns c = check_by c.args.block.now c.digest_of-digest.result _ c.same.result c.requires c.digest_of-digest.ensures (behind_body c.args.block.now) c.same.ensures
