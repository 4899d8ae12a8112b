use Rattle.harness.proofs.LineLaws.{one_more}
use Rattle.base.specs.Bytes.{ascii}
use Rattle.harness.specs.Printing.{refusal}
use Rattle.harness.proofs.Line.refusal.Goals as goal

pub returns : goal.returns
unfolding refusal ascii
returns c =
    one_more _ _ _
    (one_more _ _ _ (one_more _ _ _ c.text.ensures c.number.ensures) c.text-2.ensures)
    c.number-2.ensures
