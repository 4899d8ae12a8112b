use mathlib.Core.Path.{ap}
use Rattle.entry.specs.EntryAt.{fault_before}
use Rattle.entry.specs.declared.Record.{Record}
use Rattle.entry.specs.declared.Content.TheVariants
use borrow.Author.Rules.{rules}
use Rattle.entry.proofs.fault.Goals as goal

pub returns : goal.returns
unfolding fault_before
returns c =
    ap (λ (r : Record). record { content = TheVariants.Fault c.args.number; «record» = r; next = c.args.next }) c.no_record.ensures
