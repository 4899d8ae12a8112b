-- The public theorems of `slots`. Assumes nothing.
use Prim.Native.Nat.{ℕ, ◌*◌}
use mathlib.Core.Path.{◌≡◌}
use mathlib.Core.List.{List}
use lib.ListN.{length}
use Rattle.slots.specs.Form.{TableEntry, IsTable, Sound}
use Rattle.slots.specs.Sizes.{slot_size}
use Rattle.slots.proofs.OneLaws.{one_from}
use Rattle.slots.proofs.TableLaws.{length_table}

-- the bytes of a table determine its entries
pub one_table : (limit : ℕ) (t u : List TableEntry) (b : List ℕ) → IsTable limit t b → IsTable limit u b → t ≡ u
one_table limit t u b h k = one_from limit t u b h k

-- and so do those of a sound one: whoever finds b sound finds the same table
pub one_sound_table : (limit : ℕ) (b : List ℕ) (h k : Sound limit b) → h.table ≡ k.table
one_sound_table limit b h k = one_table limit h.table k.table b h.slots k.slots

-- every table with room for so many names has so many bytes: a byte string of another length is not sound
pub table_length : (limit : ℕ) (b : List ℕ) → Sound limit b → length b ≡ slot_size * limit
table_length limit b h = length_table limit h.table b h.slots
