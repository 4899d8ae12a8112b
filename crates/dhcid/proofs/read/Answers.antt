use mathlib.Core.Path.{sym, ◌∙◌}
use Rattle.dhcid.proofs.SaysLaws.{said_unknown, said_v4, said_v6}
use Rattle.dhcid.proofs.read.Goals as goal

pub returns-then-not-is_known : goal.returns-then-not-is_known
returns-then-not-is_known c =
    let start = c.args in
    let is = c.is_known in
    c.refused.ensures ∙ sym (said_unknown start.family start.setting start.message.now (sym is.ensures ∙ c.if-not-is_known.true))

pub returns-then-family-eq-V4 : goal.returns-then-family-eq-V4
returns-then-family-eq-V4 c =
    let start = c.args in
    let is = c.is_known in
    c.read4.ensures
    ∙ sym (said_v4 start.family start.setting start.message.now (sym is.ensures ∙ c.if-not-is_known.false) c.if-family-eq-V4.true)

pub returns : goal.returns
returns c =
    let start = c.args in
    let is = c.is_known in
    c.read6.ensures
    ∙ sym (said_v6 start.family start.setting start.message.now (sym is.ensures ∙ c.if-not-is_known.false) c.if-family-eq-V4.false)
