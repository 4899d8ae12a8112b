use mathlib.Core.Path.{sym}
use borrow.Author.Tests.{le-leb, lt-leb, not-true, not-false}
use Rattle.message6.proofs.is_duid.Goals as goal

pub returns-then-not-duid : goal.returns-then-not-duid
returns-then-not-duid c = sym (rw (not-true _ c.if-not-duid.true))

pub returns-then-part-ge3 : goal.returns-then-part-ge3
returns-then-part-ge3 c =
    let s = c.args.duid in
    rw (not-false s.found c.if-not-duid.false, le-leb 3 s.part.len c.if-part-ge3.true)

pub returns-else-part-ge3 : goal.returns-else-part-ge3
returns-else-part-ge3 c =
    let s = c.args.duid in
    rw (not-false s.found c.if-not-duid.false, lt-leb 3 s.part.len c.if-part-ge3.false)
