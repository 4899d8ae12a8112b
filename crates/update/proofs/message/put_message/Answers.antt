use borrow.Author.Rules.{rules}
use Rattle.update.proofs.message.put_message.Goals as goal

pub put_add_first-requires-clause-address_in_bounds : goal.put_add_first-requires-clause-address_in_bounds
put_add_first-requires-clause-address_in_bounds c = rw c.in-AddFirst.is at c.requires.address_in_bounds

pub put_add_second-requires-clause-address_in_bounds : goal.put_add_second-requires-clause-address_in_bounds
put_add_second-requires-clause-address_in_bounds c = rw c.in-AddSecond.is at c.requires.address_in_bounds

pub put_remove_first-requires-clause-address_in_bounds : goal.put_remove_first-requires-clause-address_in_bounds
put_remove_first-requires-clause-address_in_bounds c = rw c.in-RemoveFirst.is at c.requires.address_in_bounds

pub returns-in-AddFirst : goal.returns-in-AddFirst
returns-in-AddFirst c = rw c.in-AddFirst.is c.put_add_first.ensures.out_after

pub returns-in-AddSecond : goal.returns-in-AddSecond
returns-in-AddSecond c = rw c.in-AddSecond.is c.put_add_second.ensures.out_after

pub returns-in-RemoveFirst : goal.returns-in-RemoveFirst
returns-in-RemoveFirst c = rw c.in-RemoveFirst.is c.put_remove_first.ensures.out_after
