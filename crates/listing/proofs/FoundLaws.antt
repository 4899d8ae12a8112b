-- What a step says determines what it has found. Assumes nothing.
use mathlib.Core.Bool.{true≢false, false≢true}
use mathlib.Core.Path.{◌≡◌, refl, ap}
use native.Mathlib.Omega.{arith}
use Rattle.entry.specs.declared.Record.{Record}
use Rattle.listing.specs.Found.{is_refused, number, offset, count, Told, told}
use Rattle.listing.specs.declared.Found.{Found}
use Rattle.listing.specs.declared.Found.TheVariants as found
use Rattle.listing.specs.declared.Step.{Step}

found_one : (f g : Found) → is_refused f ≡ is_refused g → number f ≡ number g → offset f ≡ offset g → count f ≡ count g → f ≡ g
found_one found.Record found.Record e n o c = refl
found_one found.Record found.End e n o c = absurd (omega arith)
found_one found.Record (found.Refused m p) e n o c = absurd (omega arith)
found_one found.End found.Record e n o c = absurd (omega arith)
found_one found.End found.End e n o c = refl
found_one found.End (found.Refused m p) e n o c = absurd (false≢true e)
found_one (found.Refused m p) found.Record e n o c = absurd (true≢false e)
found_one (found.Refused m p) found.End e n o c = absurd (true≢false e)
found_one (found.Refused m p) (found.Refused k q) e n o c = λ i. found.Refused (n i) (o i)

-- a step that says what one with f and p would say has found f
pub found_by : (s : Step) (f : Found) (p : Record) → told s ≡ record { refused = is_refused f; number = number f; offset = offset f; count = count f; «record» = p } → s.found ≡ f
found_by s f p e =
    found_one s.found f (ap (λ (x : Told). x.refused) e) (ap (λ (x : Told). x.number) e) (ap (λ (x : Told). x.offset) e) (ap (λ (x : Told). x.count) e)

-- no two answers say the same
pub told_one : (s s' : Step) → told s ≡ told s' → (s.found ≡ s'.found) × (s.«record» ≡ s'.«record»)
told_one s s' e = (found_by s s'.found s'.«record» e, ap (λ (x : Told). x.«record») e)
