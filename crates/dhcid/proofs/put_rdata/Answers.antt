use mathlib.Core.Path.{ap, ◌∙◌}
use mathlib.Core.List.{List}
use Prim.Native.Nat.{ℕ}
use Rattle.base.specs.Bytes.{overlay}
use Rattle.dhcid.proofs.WritingLaws.{rdata_written}
use Rattle.dhcid.proofs.put_rdata.Goals as goal

pub returns : goal.returns
returns c =
    let start = c.args in
    c.put-2.ensures ∙ ap (λ (l : List ℕ). overlay l 3 start.digest) c.put.ensures ∙ rdata_written start.out.now start.id_type start.digest
