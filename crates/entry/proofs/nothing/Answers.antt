use mathlib.Core.Path.{ap}
use Rattle.entry.specs.EntryAt.{nothing_before}
use Rattle.entry.specs.declared.Record.{Record}
use Rattle.entry.specs.declared.Content.TheVariants
use borrow.Author.Rules.{rules}
use Rattle.entry.proofs.nothing.Goals as goal

pub returns : goal.returns
unfolding nothing_before
returns c = ap (λ (r : Record). record { content = TheVariants.Nothing; «record» = r; next = c.args.next }) c.no_record.ensures
