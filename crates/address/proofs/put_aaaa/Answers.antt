use native.Mathlib.Omega.{arith}
use Rattle.text.proofs.PartLaws.{parted_none, part_fits, parted_more, parted_all}
use Rattle.address.specs.Address.{written_aaaa}
use Rattle.address.proofs.WrittenLaws.{eight_parts, written_fits, part_at}
use Rattle.address.proofs.put_aaaa.Goals as goal

pub loop-i-init : goal.loop-i-init
loop-i-init c = parted_none _ _ _ _ (written_fits _ c.requires.bytes_len _ _ c.requires.at_in_bounds)

pub put_part-end-requires : goal.put_part-end-requires
put_part-end-requires c =
    let bs = c.args.bytes.now in
    let long = c.requires.bytes_len in
    let l = c.loop-i in
    part_fits _ _ _ _ (written_fits bs long _ _ c.requires.at_in_bounds) _ _ _ l.invariant (omega (arith, eight_parts bs long)) _ (part_at bs long l.i (omega arith)) _
    c.four_digits-group.ensures

pub loop-i-preserved : goal.loop-i-preserved
loop-i-preserved c =
    let bs = c.args.bytes.now in
    let long = c.requires.bytes_len in
    let l = c.loop-i in
    parted_more _ _ _ _ (written_fits bs long _ _ c.requires.at_in_bounds) _ _ _ l.invariant (omega (arith, eight_parts bs long)) _ (part_at bs long l.i (omega arith)) _ _ _
    c.four_digits-group.ensures c.put_part-end.ensures.value c.put_part-end.ensures.to_after

pub returns : goal.returns
unfolding written_aaaa
returns c =
    let bs = c.args.bytes.now in
    let long = c.requires.bytes_len in
    (parted_all _ _ _ _ (written_fits bs long _ _ c.requires.at_in_bounds) _ _ _ c.loop-i.invariant (omega (arith, eight_parts bs long))).0
