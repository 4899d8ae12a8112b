-- The bytes of a table cut at one slot: what stands there, and what the table is with another entry there, with one more, or with one less. Assumes nothing.
use Prim.Native.Nat.{ℕ, ◌+◌, ◌*◌, ◌<◌}
use mathlib.Core.Path.{◌≡◌, sym, ◌∙◌}
use mathlib.Core.List.{List, [], ◌∷◌, ◌++◌}
use native.Mathlib.Omega.{arith}
use lib.ListN.{length, take, drop, replicate, length-append}
use Rattle.base.specs.Bytes.{closed_up}
use Rattle.base.proofs.Lists.{every_middle}
use Rattle.base.proofs.RowLaws as row
use Rattle.slots.specs.Form.{TableEntry, slot_bytes, WellFormed, table_bytes, IsTable}
use Rattle.slots.specs.Sizes.{slot_size}
use Rattle.slots.proofs.LaidLaws.{length_slot}
use Rattle.slots.proofs.TableLaws.{bytes_are, as_row}

-- at an entry that stands
module _ (k : ℕ) (p : List TableEntry) (e : TableEntry) (r : List TableEntry) (b : List ℕ) (h : IsTable k (p ++ e ∷ r) b) where
  pub entry_well_formed : WellFormed e
  entry_well_formed = every_middle p r e h.each

  pub entry_within : length p < k
  entry_within = omega (arith, h.room, length-append p (e ∷ r))

  pub slot_there : take slot_size (drop (slot_size * length p) b) ≡ slot_bytes e
  slot_there = row.slot_there slot_bytes slot_size WellFormed length_slot k p e r b (as_row h)

  -- another entry in its place
  pub replaced : (f : TableEntry) → take (slot_size * length p) b ++ slot_bytes f ++ drop (slot_size * length p + slot_size) b ≡ table_bytes k (p ++ f ∷ r)
  replaced f = row.replaced slot_bytes slot_size WellFormed length_slot k p e r b (as_row h) f ∙ sym (bytes_are k (p ++ f ∷ r))

  -- none in its place: later ones move up
  pub taken_out : closed_up slot_size b (slot_size * length p) ≡ table_bytes k (p ++ r)
  taken_out = row.taken_out slot_bytes slot_size WellFormed length_slot k p e r b (as_row h) ∙ sym (bytes_are k (p ++ r))

-- behind the last entry
module _ (k : ℕ) (t : List TableEntry) (b : List ℕ) (h : IsTable k t b) (room : length t < k) where
  pub unused_there : take slot_size (drop (slot_size * length t) b) ≡ replicate slot_size 0
  unused_there = row.unused_there slot_bytes slot_size WellFormed length_slot k t b (as_row h) room

  pub appended : (e : TableEntry) → take (slot_size * length t) b ++ slot_bytes e ++ drop (slot_size * length t + slot_size) b ≡ table_bytes k (t ++ e ∷ [])
  appended e = row.appended slot_bytes slot_size WellFormed length_slot k t b (as_row h) room e ∙ sym (bytes_are k (t ++ e ∷ []))
