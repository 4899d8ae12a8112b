use native.Mathlib.Omega.{arith}
use Rattle.load_check.proofs.HeadLaws.{put_a, put_aaaa, put_dhcid}
use Rattle.load_check.proofs.put_type.Goals as goal

pub returns-in-1 : goal.returns-in-1
returns-in-1 c =
    put_a c.args.rtype c.in-1.is c.args.at _ _ c.requires c.put.ensures

pub returns-in-28 : goal.returns-in-28
returns-in-28 c =
    put_aaaa c.args.rtype c.in-28.is c.args.at _ _ c.requires c.put-in-28.ensures

pub returns-in_default : goal.returns-in_default
returns-in_default c =
    put_dhcid c.args.rtype (omega arith) (omega arith) c.args.at _ _ c.requires c.put-in_default.ensures
