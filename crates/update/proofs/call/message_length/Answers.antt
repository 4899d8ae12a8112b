use borrow.Author.Rules.{rules}
use Rattle.update.proofs.call.message_length.Goals as goal

pub returns-in-AddFirst : goal.returns-in-AddFirst
returns-in-AddFirst c = rw c.in-AddFirst.is

pub returns-in-AddSecond : goal.returns-in-AddSecond
returns-in-AddSecond c = rw c.in-AddSecond.is

pub returns-in-RemoveFirst : goal.returns-in-RemoveFirst
returns-in-RemoveFirst c = rw c.in-RemoveFirst.is
