use borrow.Author.Rules.{rules}
use Rattle.load_check.proofs.VerdictLaws.{accepted_right, refused_explains}
use Rattle.load_check.proofs.print_answer.Goals as goal

pub print_names-requires : goal.print_names-requires
print_names-requires c =
    let v = c.verdict in
    accepted_right _ v.result v.ensures _ c.in-Accepted.is

pub print_reason-requires : goal.print_reason-requires
print_reason-requires c =
    let v = c.verdict in
    refused_explains _ v.result v.ensures _ _ c.in-Refused.is
