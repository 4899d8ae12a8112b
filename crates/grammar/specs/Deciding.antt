-- The tests that the functions of OwnerReader.antt, AddressReader.antt and DhcidReader.antt are made of. A reader of the grammar need not know them: no
-- definition of meaning cites them.
use Rattle.std.specs.Prelude.{Bool, true, false, ◌&&◌, List, [], ◌∷◌}
use Rattle.std.proofs.Math.Option.{Option, none}

-- r if the test t passes, and none if not
unfoldable pub provided : {A : Type 0} → Bool → Option A → Option A
provided true r = r
provided false r = none

-- each element passes the test p
unfoldable pub all : {A : Type 0} → (A → Bool) → List A → Bool
all p [] = true
all p (a ∷ l) = p a && all p l
