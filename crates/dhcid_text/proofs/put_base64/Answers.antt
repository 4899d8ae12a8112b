use Rattle.base.proofs.Fill.{copied_none, copied_all}
use Rattle.dhcid_text.proofs.Base64Laws.{group_written, last_written}
use mathlib.Core.List.{[]}
use Prim.Native.Nat.{◌+◌, ◌*◌, ◌<◌}
use native.Mathlib.Omega.{arith}
use lib.ListN.{length}
use Rattle.dhcid_text.specs.Dhcid.{base64}
use Rattle.dhcid_text.proofs.put_base64.Goals as goal

pub loop-k-init : goal.loop-k-init
unfolding base64
loop-k-init c = copied_all _ _ [] _ 0 (copied_none c.args.to.now c.args.at []) (omega arith)

pub loop-k-preserved : goal.loop-k-preserved
loop-k-preserved c =
    let a = c.args in
    let l = c.loop-k in
    let within : 3 * l.k + 2 < length a.dhcid.now = omega arith in
    group_written a.dhcid.now l.k within a.to.now l.to c.put_group.new.to a.at _ (omega arith) l.invariant c.digit64-fourth.ensures c.put_group.ensures

pub returns : goal.returns
returns c =
    let a = c.args in
    let l = c.loop-k in
    last_written a.dhcid.now a.to.now l.to c.put_group-2.new.to a.at l.k (omega arith) (omega arith) (omega arith) l.invariant c.put_group-2.ensures
