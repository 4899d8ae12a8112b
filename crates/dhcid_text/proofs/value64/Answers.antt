use native.Mathlib.Omega.{arith}
use Rattle.base.proofs.Fill.{looked_up}
use Rattle.dhcid_text.specs.Base64.{value64}
use Rattle.dhcid_text.proofs.value64.Goals as goal

pub returns : goal.returns
returns c =
    let a = c.args in
    looked_up value64 256 c.requires a.b (omega arith)
