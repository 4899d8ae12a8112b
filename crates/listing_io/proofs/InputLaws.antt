-- What was read stands within the room for it. Assumes nothing.
use Prim.Native.Nat.{ℕ, ◌+◌, ◌-◌, ◌≤◌}
use mathlib.Core.Path.{◌≡◌, subst}
use mathlib.Core.List.{List}
use native.Mathlib.Omega.{arith}
use lib.ListN.{length, take, drop, length-take, length-drop}
use Rattle.listing_io.specs.Coming.{Came}
use Rattle.listing_io.specs.declared.Input.{Input}
use Rattle.listing_io.specs.declared.Input.TheVariants.{Read}

pub read_within : (text : List ℕ) (i : Input) (n : ℕ) → Came text i → i ≡ Read n → n ≤ length text
read_within text i n h e = subst (Came text) e h

-- of a text, n bytes were read into the room from len on
pub read_so_far : (text room : List ℕ) (len : ℕ) (i : Input) (n : ℕ) → Came room i → i ≡ Read n
    → length room ≡ length (take (length text - len) (drop len text)) → len ≤ length text → len + n ≤ length text
read_so_far text room len i n h e same within = let few = read_within room i n h e in omega (arith, simp (length-take, length-drop) at same)
