use borrow.Author.Tests.{not-true, not-false}
use Rattle.base.proofs.Tests.{no_by, decides_as}
use borrow.Author.Rules.{rules}
use Rattle.update.proofs.call.is_placed.Goals as goal

pub returns-then-not-is_canonical : goal.returns-then-not-is_canonical
returns-then-not-is_canonical c = no_by (λ h. c.is_canonical.ensures.if_false c.if-not-is_canonical.true (h.proper, h.lower))

pub is_within-requires : goal.is_within-requires
is_within-requires c = record { proper = (c.is_canonical.ensures.if_true c.if-not-is_canonical.false).0; in_bounds = c.requires }

pub returns : goal.returns
returns c =
    let p = c.is_canonical.ensures.if_true c.if-not-is_canonical.false in
    decides_as (λ w. record { proper = p.0; lower = p.1; within = w }) (λ h. h.within) c.is_within.ensures
