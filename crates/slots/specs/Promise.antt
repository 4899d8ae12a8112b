-- What the functions over a slot and over a table promise beyond the definitions of Form.antt and Effect.antt.
use Rattle.std.specs.Prelude.{ℕ, ◌+◌, ◌-◌, ◌*◌, ◌/◌, ◌%◌, Bool, false, cond, ◌≡◌, List, eqb, take, drop, get_or, set, replicate}
use Rattle.std.proofs.Math.Option.{Option, none, some}
use Rattle.base.specs.Bytes.{overlay, eq_bytes}
use Rattle.base.specs.Refusal.{held_by_another, kept_by_hand, address_differs}
use Rattle.slots.specs.Form.{TableEntry, WellFormed, slot_bytes, IsTable}
use Rattle.slots.specs.Sizes.{slot_size, flags_at}
use Rattle.slots.specs.declared.Holding.{Holding}
use Rattle.slots.specs.declared.Holding.TheVariants.{ByHand, ByThis, ByAnother}
use Rattle.slots.specs.declared.Removal.{Removal}
use Rattle.slots.specs.declared.Removal.TheVariants.{Refused, Address, Name}

-- P holds of the entry whose slot is s
abbrev pub OfSlot : List ℕ → (TableEntry → Type 0) → Type 0
OfSlot s P = (e : TableEntry) → WellFormed e → s ≡ slot_bytes e → P e

-- the bytes b are a table's, in which a name may stand twice
abbrev pub Entries : ℕ → List ℕ → Type 0
Entries limit b = (t : List TableEntry) × IsTable limit t b

-- P holds of the entries whose table is b
abbrev pub OfTable : ℕ → List ℕ → (List TableEntry → Type 0) → Type 0
OfTable limit b P = (t : List TableEntry) → IsTable limit t b → P t

-- the bytes that stand for the name in slot i, by the length that stands before them
unfoldable pub name_at : List ℕ → ℕ → List ℕ
name_at b i = take (get_or b (slot_size * i) 0) (drop (slot_size * i + 1) b)

-- is the flag of that value, 1, 2 or 4, set?
abbrev pub is_set : ℕ → ℕ → Bool
is_set bit v = eqb (v / bit % 2) 1

-- the flags with that one set
abbrev pub flag_set : ℕ → ℕ → ℕ
flag_set bit v = cond (is_set bit v) v (v + bit)

-- and with that one not set
abbrev pub flag_cleared : ℕ → ℕ → ℕ
flag_cleared bit v = cond (is_set bit v) (v - bit) v

-- the slot s with its flag set and the bytes x at index `at`
unfoldable pub field_put : List ℕ → ℕ → ℕ → List ℕ → List ℕ
field_put s bit at x = overlay (set s flags_at (flag_set bit (get_or s flags_at 0))) at x

-- and with the flag not set and that many zeros there
unfoldable pub field_cleared : List ℕ → ℕ → ℕ → ℕ → List ℕ
field_cleared s bit at size = overlay (set s flags_at (flag_cleared bit (get_or s flags_at 0))) at (replicate size 0)

-- who holds a name, seen from the client h: nobody, so that it is kept by hand; that client; or another
abbrev pub holding : {H : Type 0} → (H → H → Bool) → Option H → H → Holding
holding same none h = ByHand
holding same (some k) h = cond (same k h) ByThis ByAnother

-- is x the address, if there is one?
abbrev pub is_address : Option (List ℕ) → List ℕ → Bool
is_address none x = false
is_address (some y) x = eq_bytes y x

-- what a remove comes to, by who holds the name, whether the address is there, and whether an address would be left without it
abbrev pub removal : Holding → Bool → Bool → Removal
removal ByHand there left = Refused kept_by_hand
removal ByThis there left = cond there (cond left Address Name) (Refused address_differs)
removal ByAnother there left = Refused held_by_another
