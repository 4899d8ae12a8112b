use mathlib.Core.Path.{sym, ap, ◌∙◌}
use lib.ListN.{length}
use borrow.Author.Tests.{lt-ltb, le-ltb}
use Rattle.message6.specs.Reading6.{level, request6}
use Rattle.message6.proofs.PassLaws6.{part_all}
use Rattle.message6.proofs.read6.Goals as goal

pub returns-then-message-lt-MESSAGE_LEAST : goal.returns-then-message-lt-MESSAGE_LEAST
unfolding request6
returns-then-message-lt-MESSAGE_LEAST c =
    let m = c.args.message.now in
    c.refused.ensures ∙ sym (rw (lt-ltb (length m) 4 c.if-message-lt-MESSAGE_LEAST.true))

pub returns-then-message-gt-MESSAGE_MOST : goal.returns-then-message-gt-MESSAGE_MOST
unfolding request6
returns-then-message-gt-MESSAGE_MOST c =
    let m = c.args.message.now in
    c.refused-then-message-gt-MESSAGE_MOST.ensures ∙ sym (rw (le-ltb (length m) 4 c.if-message-lt-MESSAGE_LEAST.false, lt-ltb 2048 (length m) c.if-message-gt-MESSAGE_MOST.true))

pub returns : goal.returns
unfolding request6
returns c =
    let m = c.args.message.now in
    c.read_level.ensures ∙ ap (level 8 0) (part_all m)
    ∙ sym (rw (le-ltb (length m) 4 c.if-message-lt-MESSAGE_LEAST.false, le-ltb 2048 (length m) c.if-message-gt-MESSAGE_MOST.false))
