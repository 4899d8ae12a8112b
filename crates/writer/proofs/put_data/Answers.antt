use mathlib.Core.Path.{ap}
use native.Mathlib.Omega.{arith}
use borrow.Author.Rules.{rules}
use lib.ListN.{length, take, length-take}
use lib.Seq.{length-take-le}
use Rattle.dhcid_text.proofs.Base64Laws.{length_base64}
use Rattle.writer.proofs.PartLaws.{rdata_a, rdata_aaaa, rdata_dhcid, length_aaaa}
use Rattle.writer.proofs.put_data.Goals as goal

pub slice_bounds-put_a-end : goal.slice_bounds-put_a-end
slice_bounds-put_a-end c = simp length-take (omega arith)

pub put_a-requires : goal.put_a-requires
put_a-requires c =
    omega (arith, ap length (rdata_a c.args.rtype c.args.rdata.now c.in-1.is))

pub overflow_add-result : goal.overflow_add-result
overflow_add-result c =
    omega (arith, c.put_a.ensures.value, ap length (rdata_a c.args.rtype c.args.rdata.now c.in-1.is))

pub slice_bounds-put_aaaa-end : goal.slice_bounds-put_aaaa-end
slice_bounds-put_aaaa-end c = simp length-take (omega arith)

pub put_aaaa-requires : goal.put_aaaa-requires
put_aaaa-requires c =
    let bs = c.args.rdata.now in
    let sixteen = length-take-le 16 bs (omega arith) in
    record { bytes_len = sixteen; at_in_bounds = omega (arith, ap length (rdata_aaaa c.args.rtype bs c.in-28.is), length_aaaa (take 16 bs) sixteen) }

pub put_base64-requires : goal.put_base64-requires
put_base64-requires c =
    let bs = c.args.rdata.now in (
      c.requires.rdata_len,
      omega (arith, ap length (rdata_dhcid c.args.rtype bs (λ e. omega arith) (λ e. omega arith)), length_base64 bs c.requires.rdata_len),
    )

pub returns-in-1 : goal.returns-in-1
returns-in-1 c =
    let is = rdata_a c.args.rtype c.args.rdata.now c.in-1.is in
    record { value = omega (arith, c.put_a.ensures.value, ap length is); to_after = rw is c.put_a.ensures.to_after }

pub returns-in-28 : goal.returns-in-28
returns-in-28 c =
    let bs = c.args.rdata.now in
    let is = rdata_aaaa c.args.rtype bs c.in-28.is in record { value = omega (arith, ap length is, length_aaaa (take 16 bs) (length-take-le 16 bs (omega arith))); to_after = rw is c.put_aaaa.ensures }

pub returns-in_default : goal.returns-in_default
returns-in_default c =
    let bs = c.args.rdata.now in
    let is = rdata_dhcid c.args.rtype bs (λ e. omega arith) (λ e. omega arith) in record { value = omega (arith, ap length is, length_base64 bs c.requires.rdata_len); to_after = rw is c.put_base64.ensures }
