use mathlib.Core.Path.{sym, ap, ◌∙◌}
use native.Mathlib.Omega.{arith}
use lib.ListN.{length, take, length-take}
use lib.Seq.{length-take-le}
use Rattle.dhcid_text.proofs.Base64Laws.{length_base64}
use Rattle.writer.proofs.PartLaws.{rdata_a, rdata_aaaa, rdata_dhcid, length_aaaa}
use Rattle.writer.proofs.data_length.Goals as goal

pub slice_bounds-a_length-end : goal.slice_bounds-a_length-end
slice_bounds-a_length-end c = simp length-take (omega arith)

pub a_length-requires : goal.a_length-requires
a_length-requires c =
    length-take-le 4 c.args.rdata.now (omega arith)

pub returns-in-1 : goal.returns-in-1
returns-in-1 c =
    c.a_length.ensures ∙ sym (ap length (rdata_a c.args.rtype c.args.rdata.now c.in-1.is))

pub returns-in-28 : goal.returns-in-28
returns-in-28 c =
    let bs = c.args.rdata.now in
    sym (ap length (rdata_aaaa c.args.rtype bs c.in-28.is) ∙ length_aaaa (take 16 bs) (length-take-le 16 bs (omega arith)))

pub returns-in_default : goal.returns-in_default
returns-in_default c =
    let bs = c.args.rdata.now in
    sym (ap length (rdata_dhcid c.args.rtype bs (λ e. omega arith) (λ e. omega arith)) ∙ length_base64 bs c.requires)
