use borrow.Author.Rules.{rules}
use Rattle.load_check.proofs.print_reason.Goals as goal

pub print_repeat-requires : goal.print_repeat-requires
print_repeat-requires c = c.requires.repeated c.in-35.is

pub print_names-requires : goal.print_names-requires
print_names-requires c = c.requires.full c.in-32.is
