use mathlib.Core.Path.{sym, ap, ◌∙◌}
use Rattle.message4.specs.Message4.{identifier4}
use Rattle.message4.specs.Judging4.{data_of, identified_as}
use Rattle.message4.specs.declared.Name.{Name}
use Rattle.message4.proofs.JudgeLaws4.{judged_repeated, judged_overload, judged_other, judged_request}
use Rattle.message4.proofs.judge.Goals as goal

pub returns-then-overload-message_type : goal.returns-then-overload-message_type
returns-then-overload-message_type c =
    let a = c.args in
    c.refused.ensures ∙ judged_repeated a.message.now a.wanted c.if-overload-message_type.true

pub returns-then-overload : goal.returns-then-overload
returns-then-overload c =
    let a = c.args in
    c.refused-then-overload.ensures ∙ judged_overload a.message.now a.wanted c.if-overload-message_type.false c.if-overload.true

pub returns-then-not-is_request : goal.returns-then-not-is_request
returns-then-not-is_request c =
    let a = c.args in
    let is = c.is_request in
    let other = sym is.ensures ∙ c.if-not-is_request.true in
    c.refused-then-not-is_request.ensures ∙ judged_other a.message.now a.wanted c.if-overload-message_type.false c.if-overload.false other

pub returns : goal.returns
returns c =
    let a = c.args in
    let is = c.is_request in
    let request = sym is.ensures ∙ c.if-not-is_request.false in
    c.identify.ensures
    ∙ ap (λ (n : Name). identified_as (identifier4 a.message.now (data_of a.message.now 61 a.wanted.client_id)) n) c.name_in-name.ensures
    ∙ judged_request a.message.now a.wanted c.if-overload-message_type.false c.if-overload.false request
