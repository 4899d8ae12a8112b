use mathlib.Core.Path.{sym, ap, ◌∙◌}
use Rattle.base.specs.declared.Answer.{Answer}
use Rattle.name.specs.Name.{canonical}
use Rattle.reverse.specs.Entry.{placed}
use Rattle.reverse.specs.Form.{reverse_bytes}
use Rattle.reverse.specs.Sizes.{most_addresses}
use Rattle.lease_calls.specs.Promise.{behind_add}
use Rattle.lease_calls.proofs.StepLaws.{side_form}
use borrow.Author.Rules.{rules}
use Rattle.lease_calls.proofs.reverse_step.Goals as goal

pub returns-in-Accepted : goal.returns-in-Accepted
returns-in-Accepted c = λ rs h is.
    let a = c.args in
    let new = placed a.family a.address.now (canonical a.name.now) rs in
    c.put_behind.ensures rs h is ∙ sym (ap (λ (r : Answer). reverse_bytes most_addresses (behind_add r new rs)) c.in-Accepted.is)

pub returns-in-Refused : goal.returns-in-Refused
returns-in-Refused c = λ rs h is.
    let a = c.args in
    let new = placed a.family a.address.now (canonical a.name.now) rs in
    side_form most_addresses rs _ h ∙ sym (ap (λ (r : Answer). reverse_bytes most_addresses (behind_add r new rs)) c.in-Refused.is)
