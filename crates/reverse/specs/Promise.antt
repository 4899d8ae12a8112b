-- What the functions over the reverse side promise beyond the definitions of Entry.antt and Form.antt.
use Rattle.std.specs.Prelude.{ℕ, suc, ◌*◌, ◌≤◌, ◌<◌, cond, ◌≡◌, List, [], ◌∷◌, length, take, drop}
use Rattle.slots.specs.Entry.{address_size}
use Rattle.slots.specs.declared.Family.{Family}
use Rattle.reverse.specs.Entry.{ReverseEntry, is_at}
use Rattle.reverse.specs.Form.{key_bytes, slot_bytes, WellFormed, IsReverse}
use Rattle.reverse.specs.Sizes.{key_size, reverse_slot_size}

-- ---- one slot

-- the bytes k are family and address
unfoldable pub IsKey : List ℕ → Type 0
IsKey k = (f : Family) × (x : List ℕ) × (length x ≡ address_size f) × (k ≡ key_bytes f x)

-- the bytes s are the slot of an entry that a sound reverse side can have
unfoldable pub IsReverseSlot : List ℕ → Type 0
IsReverseSlot s = (r : ReverseEntry) × WellFormed r × (s ≡ slot_bytes r)

-- ---- the reverse side

-- the bytes b are a reverse side's, in which an address may stand twice
abbrev pub Entries : ℕ → List ℕ → Type 0
Entries limit b = (rs : List ReverseEntry) × IsReverse limit rs b

-- P holds of the entries whose reverse side is b
abbrev pub OfReverse : ℕ → List ℕ → (List ReverseEntry → Type 0) → Type 0
OfReverse limit b P = (rs : List ReverseEntry) → IsReverse limit rs b → P rs

-- the key that stands in slot i
unfoldable pub key_at : List ℕ → ℕ → List ℕ
key_at b i = take key_size (drop (reverse_slot_size * i) b)

-- r is the first of the slots before `end` that has the key k, or `end` where none of them has it
pub record FirstKey (b k : List ℕ) (end r : ℕ) : Type 0 where
  pub low : r ≤ end
  pub before : (j : ℕ) → j < r → key_at b j ≡ k → ⊥
  pub there : r < end → key_at b r ≡ k

-- how many entries stand before that of an address; all of them where it has none
unfoldable pub place : Family → List ℕ → List ReverseEntry → ℕ
place f x [] = 0
place f x (r ∷ rs) = cond (is_at f x r) 0 (suc (place f x rs))
