use mathlib.Core.Path.{◌≡◌, sym, ap, ◌∙◌}
use Prim.Native.Nat.{◌+◌}
use native.Mathlib.Numerals.{add-one}
use native.Mathlib.Omega.{arith}
use lib.ListN.{length, get_or, take}
use lib.Seq.{take_all}
use Rattle.text.specs.Digits.{decimal}
use Rattle.text.proofs.PartLaws.{total, total_none, total_snoc, total_separated}
use Rattle.text.proofs.DigitLaws.{length_decimal}
use Rattle.address.specs.Address.{written_a}
use Rattle.address.proofs.WrittenLaws.{octet_parts, length_octets, octet_part}
use Rattle.address.proofs.a_length.Goals as goal

pub loop-b-init : goal.loop-b-init
loop-b-init c = (sym total_none, omega arith)

pub loop-b-preserved : goal.loop-b-preserved
loop-b-preserved c =
    let bs = c.args.bytes.now in
    let l = c.loop-b in
    let p = decimal 3 (get_or bs l.b-index 0) in
    let next : total (take (l.b-index + 1) (octet_parts bs)) ≡ total (take l.b-index (octet_parts bs)) + (1 + length p) =
    rw add-one (ap total (octet_part bs l.b-index (omega arith)) ∙ total_snoc (take l.b-index (octet_parts bs)) p) in
    (omega arith, omega (arith, length_decimal 3 (get_or bs l.b-index 0)))

pub overflow_sub-result : goal.overflow_sub-result
overflow_sub-result c =
    let bs = c.args.bytes.now in
    omega (arith, c.requires, total_separated 46 (octet_parts bs) (omega (arith, length_octets bs, c.requires)), ap total (take_all c.loop-b.b-index (octet_parts bs) (omega (arith, length_octets bs))))

pub returns : goal.returns
unfolding written_a
returns c =
    let bs = c.args.bytes.now in
    omega (arith, c.requires, total_separated 46 (octet_parts bs) (omega (arith, length_octets bs, c.requires)), ap total (take_all c.loop-b.b-index (octet_parts bs) (omega (arith, length_octets bs))))
