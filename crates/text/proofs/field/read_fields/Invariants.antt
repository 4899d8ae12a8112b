use Rattle.text.proofs.ScanLaws.{Scanning}
use Rattle.text.proofs.field.read_fields.Given as goal

abbrev pub invariant-loop-b : goal.invariant-loop-b
invariant-loop-b l = Scanning l.form l.word l.values l.k l.value l.digits l.b-index
