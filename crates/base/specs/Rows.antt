-- Rows of slots: what a store of fixed places is as bytes. Each entry has a slot of one size, the used ones come first in the entries' order, and unused ones are
-- zeros. The entries, the bytes of one, the size and the number of places are parameters.
use Rattle.std.specs.Prelude.{ℕ, ◌-◌, ◌*◌, ◌≤◌, ◌≡◌, List, [], ◌∷◌, ◌++◌, length, replicate}
use Rattle.base.specs.Logic.{Every}

module _ {E : Type 0} (slot : E → List ℕ) where
  -- the slots of the entries, one after the other
  unfoldable pub in_slots : List E → List ℕ
  in_slots [] = []
  in_slots (e ∷ es) = slot e ++ in_slots es

  -- the bytes of a row that has room for so many entries
  unfoldable pub row_bytes : ℕ → ℕ → List E → List ℕ
  row_bytes size limit es = in_slots es ++ replicate (size * (limit - length es)) 0

-- the bytes b are those of the entries es: each is well formed, they all have room, and the used slots come first
pub record IsRow {E : Type 0} (slot : E → List ℕ) (size : ℕ) (WellFormed : E → Type 0) (limit : ℕ) (es : List E) (b : List ℕ) : Type 0 where
  pub each : Every WellFormed es
  pub room : length es ≤ limit
  pub form : b ≡ row_bytes slot size limit es
