use Prim.Native.Nat.{◌+◌}
use native.Mathlib.Omega.{arith}
use lib.ListN.{drop, length-drop}
use Rattle.base.proofs.Fill.{copied_more, copied_all}
use Rattle.octets.proofs.CloseUpLaws.{read_behind}
use Rattle.octets.proofs.move_up.Goals as goal

pub loop-i-preserved : goal.loop-i-preserved
loop-i-preserved c =
    let b = c.args.row.now in
    let at = c.args.at in
    let size = c.args.size in
    let long = length-drop (at + size) b in
    copied_more b at (drop (at + size) b) _ c.loop-i.i _ c.loop-i.invariant (read_behind size b at c.loop-i.row c.loop-i.i c.requires c.loop-i.invariant) (omega arith) (omega arith)

pub returns : goal.returns
returns c =
    let b = c.args.row.now in
    copied_all b c.args.at (drop (c.args.at + c.args.size) b) _ c.loop-i.i c.loop-i.invariant (omega (arith, length-drop (c.args.at + c.args.size) b))
