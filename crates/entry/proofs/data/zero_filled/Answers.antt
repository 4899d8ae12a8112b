use mathlib.Core.Path.{◌∙◌}
use Rattle.base.specs.Bytes.{zero_filled}
use Rattle.base.proofs.Bytes.{overlay_zeros}
use borrow.Author.Rules.{rules}
use Rattle.entry.proofs.data.zero_filled.Goals as goal

pub returns : goal.returns
unfolding zero_filled
returns c = c.put.ensures ∙ overlay_zeros 35 c.args.bytes.now
