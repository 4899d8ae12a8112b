use native.Mathlib.Omega.{arith}
use Rattle.text.proofs.DigitLaws.{digits_first}
use Rattle.text.proofs.PartLaws.{parted_none, part_fits, parted_more, parted_all}
use Rattle.address.specs.Address.{written_a}
use Rattle.address.proofs.WrittenLaws.{length_octets, octet_part}
use Rattle.address.proofs.put_a.Goals as goal

pub loop-i-init : goal.loop-i-init
unfolding written_a
loop-i-init c = parted_none _ _ _ _ c.requires

pub put_part-end-requires : goal.put_part-end-requires
unfolding written_a
put_part-end-requires c =
    let bs = c.args.bytes.now in
    let l = c.loop-i in
    part_fits _ _ _ _ c.requires _ _ _ l.invariant (omega (arith, length_octets bs)) _ (octet_part bs l.i (omega arith)) _
    (digits_first 3 _ _ _ _ c.decimal-len.ensures)

pub loop-i-preserved : goal.loop-i-preserved
unfolding written_a
loop-i-preserved c =
    let bs = c.args.bytes.now in
    let l = c.loop-i in
    parted_more _ _ _ _ c.requires _ _ _ l.invariant (omega (arith, length_octets bs)) _ (octet_part bs l.i (omega arith)) _ _ _
    (digits_first 3 _ _ _ _ c.decimal-len.ensures) c.put_part-end.ensures.value c.put_part-end.ensures.to_after

pub returns : goal.returns
unfolding written_a
returns c =
    let all = parted_all _ _ _ _ c.requires _ _ _ c.loop-i.invariant (omega (arith, length_octets c.args.bytes.now)) in
    record { value = all.1; to_after = all.0 }
