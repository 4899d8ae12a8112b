use mathlib.Core.Path.{refl}
use Rattle.name_text.proofs.CallLaws.{read_short, read_whole}
use Rattle.name_text.proofs.read.Goals as goal

pub returns-then-out-bytes : goal.returns-then-out-bytes
returns-then-out-bytes c =
    read_short _ _ c.in-Some.name c.in-Some.ensures _ c.as_slice-bytes.ensures _ _ c.if-out-bytes.true c.refused-then-out-bytes.ensures refl

pub returns : goal.returns
returns c =
    read_whole _ _ c.in-Some.name c.in-Some.ensures _ c.as_slice-bytes.ensures _ _ c.if-out-bytes.false refl c.put.ensures
