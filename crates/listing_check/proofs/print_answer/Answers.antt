use borrow.Author.Rules.{rules}
use Rattle.listing_check.proofs.NextLaws.{accepted_printable}
use Rattle.listing_check.proofs.print_answer.Goals as goal

pub print_records-requires : goal.print_records-requires
print_records-requires c =
    let t = c.args.text.now in
    record { printable = accepted_printable t c.check.result _ c.check.ensures c.in-Accepted.is; longest_line_in_bounds = search rules }
