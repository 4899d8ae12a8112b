use mathlib.Core.Path.{sym, ◌∙◌}
use native.Mathlib.Omega.{arith}
use Rattle.message4.specs.Message4.{hlen, Reads4}
use Rattle.message4.proofs.Laws4.{reads_answer, answer_no_bootrequest, answer_long_address, answer_options}
use Rattle.message4.proofs.read4.Goals as goal

pub returns-then-message-lt-OPTIONS : goal.returns-then-message-lt-OPTIONS
returns-then-message-lt-OPTIONS c =
    let m = c.args.message.now in
    c.refused.ensures ∙ sym (reads_answer {m = m} (Reads4.too_short (omega arith)))

pub returns-then-message-gt-LONGEST_MESSAGE : goal.returns-then-message-gt-LONGEST_MESSAGE
returns-then-message-gt-LONGEST_MESSAGE c =
    let m = c.args.message.now in
    c.refused-then-message-gt-LONGEST_MESSAGE.ensures ∙ sym (reads_answer {m = m} (Reads4.too_long (omega arith)))

pub returns-then-not-is_bootrequest : goal.returns-then-not-is_bootrequest
returns-then-not-is_bootrequest c =
    let m = c.args.message.now in
    let is = c.is_bootrequest in
    let other = sym is.ensures ∙ c.if-not-is_bootrequest.true in
    c.refused-then-not-is_bootrequest.ensures ∙ answer_no_bootrequest m (omega arith) (omega arith) other

pub returns-then-message-gt-LONGEST_ADDRESS : goal.returns-then-message-gt-LONGEST_ADDRESS
unfolding hlen
returns-then-message-gt-LONGEST_ADDRESS c =
    let m = c.args.message.now in
    let is = c.is_bootrequest in
    let request = sym is.ensures ∙ c.if-not-is_bootrequest.false in
    c.refused-then-message-gt-LONGEST_ADDRESS.ensures ∙ answer_long_address m (omega arith) (omega arith) request (omega arith)

pub returns : goal.returns
unfolding hlen
returns c =
    let m = c.args.message.now in
    let is = c.is_bootrequest in
    let request = sym is.ensures ∙ c.if-not-is_bootrequest.false in
    c.read_options.ensures ∙ answer_options m (omega arith) (omega arith) request (omega arith)
