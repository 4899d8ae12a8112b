use mathlib.Core.Path.{◌≡◌, sym, ap}
use native.Mathlib.Omega.{arith}
use Rattle.dhcid.specs.Chosen.{source_number, packed_name}
use Rattle.dhcid.proofs.packed.Goals as goal

pub returns-then-from_site : goal.returns-then-from_site
unfolding packed_name
returns-then-from_site c =
    let source : 1 ≡ source_number c.args.from_site = sym (ap source_number c.if-from_site.true) in
    omega arith

pub returns : goal.returns
unfolding packed_name
returns c =
    let source : 0 ≡ source_number c.args.from_site = sym (ap source_number c.if-from_site.false) in
    omega arith
