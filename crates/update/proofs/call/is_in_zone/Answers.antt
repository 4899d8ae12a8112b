use mathlib.Core.Bool.{false≢true}
use mathlib.Core.Path.{◌≡◌, sym, ap, ◌∙◌}
use native.Mathlib.Omega.{arith}
use lib.ListN.{length, take}
use Rattle.base.proofs.Tests.{no_by}
use Rattle.name.specs.Name.{canonical}
use Rattle.name.proofs.NameLaws.{length_canonical}
use Rattle.name.proofs.WireLaws.{proper_short}
use Rattle.name.proofs.WithinLaws.{proper_two}
use Rattle.update.proofs.PlacedLaws.{in_zone_by}
use Rattle.update.proofs.RestLaws.{owner_is}
use borrow.Author.Rules.{rules}
use Rattle.update.proofs.call.is_in_zone.Goals.{After-put_canonical}
use Rattle.update.proofs.call.is_in_zone.Goals as goal

pub returns-then-name-gt-LONGEST : goal.returns-then-name-gt-LONGEST
returns-then-name-gt-LONGEST c =
    let n = c.args.name.now in
    record { decides = no_by (λ h. omega (arith, proper_short n h.name, c.if-name-gt-LONGEST.true)); room_after = λ t. absurd (false≢true t) }

pub returns-then-zone-lt-SHORTEST : goal.returns-then-zone-lt-SHORTEST
returns-then-zone-lt-SHORTEST c =
    let z = c.args.zone.now in
    record { decides = no_by (λ h. omega (arith, proper_two z h.zone, c.if-zone-lt-SHORTEST.true)); room_after = λ t. absurd (false≢true t) }

-- the canonical form that is lent
owner : (c : After-put_canonical) → let n = c.args.name.now in take (length n) c.put_canonical.new.to ≡ canonical n
owner c = owner_is _ _ c.args.name.now c.put_canonical.ensures

pub slice_bounds-is_placed-end-2 : goal.slice_bounds-is_placed-end-2
slice_bounds-is_placed-end-2 c = sym (ap length (owner (goal.at.slice_bounds-is_placed-end-2 c).After-put_canonical) ∙ length_canonical c.args.name.now)

pub returns : goal.returns
returns c =
    let a = c.args in
    record { decides = in_zone_by a.name.now _ a.zone.now (owner (goal.at.returns c).After-put_canonical) c.if-zone-lt-SHORTEST.false _ c.is_placed.ensures; room_after = λ t. c.put_canonical.ensures }
