use mathlib.Core.Path.{ap, ◌∙◌}
use native.Mathlib.Omega.{arith}
use lib.Seq.{take_all}
use Rattle.harness.specs.Printing.{hexadecimal, followed}
use Rattle.harness.proofs.LineLaws.{followed_none, hex_more}
use Rattle.harness.proofs.Line.hex.Goals as goal

pub loop-b-init : goal.loop-b-init
unfolding hexadecimal
loop-b-init c = followed_none _

pub loop-b-preserved : goal.loop-b-preserved
loop-b-preserved c = hex_more _ _ _ c.loop-b.invariant (omega arith) (c.text-line.ensures ∙ ap (followed _) c.hex_pair.ensures)

pub returns : goal.returns
returns c = c.loop-b.invariant ∙ ap (λ bs. followed c.args.self (hexadecimal bs)) (take_all c.loop-b.b-index c.args.bytes.now (omega arith))
