use Prim.Native.Nat.{◌≤◌, ◌<◌}
use native.Mathlib.Omega.{arith}
use borrow.Author.Tests.{eq-eqb, ne_eqb, le-leb, lt-leb}
use Rattle.base.specs.Dhcid.{well_formed, identifier_type, digest_type}
use Rattle.base.proofs.dhcid.is_well_formed.Goals as goal

pub returns-then-rdata-ne-LENGTH : goal.returns-then-rdata-ne-LENGTH
unfolding well_formed identifier_type digest_type
returns-then-rdata-ne-LENGTH c = simp (ne_eqb _ _ c.if-rdata-ne-LENGTH.true)

pub returns-then-be16-gt2 : goal.returns-then-be16-gt2
unfolding well_formed identifier_type digest_type
returns-then-be16-gt2 c =
    let rdata = c.args.rdata.now in
    let high : 2 < identifier_type rdata = omega arith in
    simp (eq-eqb _ _ c.if-rdata-ne-LENGTH.false, lt-leb _ _ high)

pub returns : goal.returns
unfolding well_formed identifier_type digest_type
returns c =
    let rdata = c.args.rdata.now in
    let defined : identifier_type rdata ≤ 2 = omega arith in
    simp (eq-eqb _ _ c.if-rdata-ne-LENGTH.false, le-leb _ _ defined)
