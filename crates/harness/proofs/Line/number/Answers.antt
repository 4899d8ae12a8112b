use Prim.Native.Nat.{◌^◌, ◌<◌}
use mathlib.Core.Path.{ap, ◌∙◌}
use Rattle.harness.proofs.LineLaws.{spelled}
use Rattle.harness.specs.Printing.{followed}
use borrow.Author.Rules.{rules}
use Rattle.harness.proofs.Line.number.Goals as goal

pub returns : goal.returns
returns c =
    let h = c.decimal-k.ensures in
    let small : c.args.n < 10 ^ 20 = search rules in
    c.text.ensures ∙ ap (followed _) (h.digits ∙ spelled _ _ h.len small)
