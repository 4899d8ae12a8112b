use Rattle.base.specs.Bytes.{ascii}
use Rattle.harness.specs.Printing.{resource_record}
use Rattle.harness.proofs.LineLaws.{one_more}
use Rattle.harness.proofs.Line.resource_record.Goals as goal

pub returns : goal.returns
unfolding resource_record ascii
returns c =
    one_more _ _ _
    (one_more _ _ _
    (one_more _ _ _ (one_more _ _ _ c.hex.ensures c.text.ensures) c.number.ensures)
    c.text-2.ensures)
    c.hex-2.ensures
