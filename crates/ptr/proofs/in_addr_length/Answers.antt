use mathlib.Core.Path.{sym, ap}
use native.Mathlib.Omega.{arith}
use lib.ListN.{length}
use lib.Seq.{take_all}
use Rattle.slots.specs.declared.Family.TheVariants.{V4}
use Rattle.ptr.specs.Ptr.{ptr_name}
use Rattle.ptr.proofs.LabelLaws.{length_suffix_4, octet_more}
use Rattle.ptr.proofs.in_addr_length.Goals as goal

pub loop-b-init : goal.loop-b-init
loop-b-init c = (sym length_suffix_4, omega arith)

pub loop-b-preserved : goal.loop-b-preserved
loop-b-preserved c = (omega (arith, octet_more c.args.address.now c.loop-b.b-index (omega arith)), omega arith)

pub returns : goal.returns
returns c = omega (arith, ap (λ y. length (ptr_name V4 y)) (take_all c.loop-b.b-index c.args.address.now (omega arith)))
