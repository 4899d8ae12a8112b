-- The reverse side as a list: addresses in order of arrival, each with the one name behind it. Document 02, K7 (docs/RULES.md, 12.2 to 12.4).
use Rattle.std.specs.Prelude.{ℕ, Bool, true, false, cond, ◌&&◌, ◌||◌, ◌≡◌, List, [], ◌∷◌, ltb, length}
use Rattle.std.proofs.Math.Option.{Option, none, some}
use Rattle.base.specs.Bytes.{eq_bytes}
use Rattle.base.specs.Logic.{Every}
use Rattle.slots.specs.declared.Family.{Family}
use Rattle.slots.specs.declared.Family.TheVariants.{V4, V6}

-- an address, and the client's name behind it, in canonical wire form
pub record ReverseEntry : Type 0 where
  pub family : Family
  pub address : List ℕ
  pub name : List ℕ

-- ---- one address

abbrev pub same_family : Family → Family → Bool
same_family V4 V4 = true
same_family V4 V6 = false
same_family V6 V4 = false
same_family V6 V6 = true

-- is it the entry of that address? The same bytes of another family are another address
unfoldable pub is_at : Family → List ℕ → ReverseEntry → Bool
is_at f x r = same_family r.family f && eq_bytes r.address x

-- the name behind an address
unfoldable pub behind : Family → List ℕ → List ReverseEntry → Option (List ℕ)
behind f x [] = none
behind f x (r ∷ rs) = cond (is_at f x r) (some r.name) (behind f x rs)

-- does the address stand?
unfoldable pub stands_at : Family → List ℕ → List ReverseEntry → Bool
stands_at f x [] = false
stands_at f x (r ∷ rs) = is_at f x r || stands_at f x rs

-- what refusal 46 asks: it stands, or there is room for another
unfoldable pub has_place : ℕ → Family → List ℕ → List ReverseEntry → Bool
has_place limit f x rs = stands_at f x rs || ltb (length rs) limit

-- no address stands twice
pub data Single : List ReverseEntry → Type 0 where
  empty : Single []
  more : {r : ReverseEntry} {rs : List ReverseEntry} → Every (λ q. is_at r.family r.address q ≡ false) rs → Single rs → Single (r ∷ rs)

-- ---- what a lease and its end do to the list

abbrev pub entry_at : Family → List ℕ → List ℕ → ReverseEntry
entry_at f x n = record { family = f; address = x; name = n }

-- the name n behind an address: in the place of the one that was there, or last
unfoldable pub placed : Family → List ℕ → List ℕ → List ReverseEntry → List ReverseEntry
placed f x n [] = entry_at f x n ∷ []
placed f x n (r ∷ rs) = cond (is_at f x r) (entry_at f x n ∷ rs) (r ∷ placed f x n rs)

-- the name n gone from behind an address, if it is the one there; later ones move up
unfoldable pub taken : Family → List ℕ → List ℕ → List ReverseEntry → List ReverseEntry
taken f x n [] = []
taken f x n (r ∷ rs) = cond (is_at f x r) (cond (eq_bytes r.name n) rs (r ∷ rs)) (r ∷ taken f x n rs)

-- every entry but that of an address, whole and in order
unfoldable pub others_at : Family → List ℕ → List ReverseEntry → List ReverseEntry
others_at f x [] = []
others_at f x (r ∷ rs) = cond (is_at f x r) (others_at f x rs) (r ∷ others_at f x rs)
