-- The public theorems of `reverse`. Assumes nothing.
use Prim.Native.Nat.{ℕ, ◌*◌}
use mathlib.Core.Bool.{true}
use mathlib.Core.Path.{◌≡◌, refl}
use mathlib.Core.List.{List}
use lib.ListN.{length}
use native.Mathlib.Omega.{arith}
use Rattle.base.proofs.RowLaws.{one_row}
use Rattle.slots.specs.Entry.{address_size}
use Rattle.slots.specs.SlotTests.{HeldName}
use Rattle.slots.specs.declared.Family.{Family}
use Rattle.reverse.specs.Entry.{ReverseEntry, entry_at, has_place, placed, taken}
use Rattle.reverse.specs.Form.{slot_bytes, WellFormed, reverse_bytes, IsReverse, SoundReverse}
use Rattle.reverse.specs.Sizes.{reverse_slot_size}
use Rattle.reverse.proofs.EntryLaws.{every_placed, every_taken, room_placed, length_taken, single_placed, single_taken}
use Rattle.reverse.proofs.SlotLaws.{length_slot, slot_marked, one_slot}
use Rattle.reverse.proofs.SideLaws.{length_side}

-- the bytes of a reverse side determine its entries
pub one_reverse : (limit : ℕ) (rs us : List ReverseEntry) (b : List ℕ) → IsReverse limit rs b → IsReverse limit us b → rs ≡ us
one_reverse limit rs us b h k = one_row slot_bytes reverse_slot_size WellFormed length_slot (omega arith) slot_marked one_slot limit rs us b h k

-- and so do those of a sound one: whoever finds b sound finds the same entries
pub one_sound_reverse : (limit : ℕ) (b : List ℕ) (h k : SoundReverse limit b) → h.names ≡ k.names
one_sound_reverse limit b h k = one_reverse limit h.names k.names b h.slots k.slots

-- a byte string of another length is not sound
pub reverse_length : (limit : ℕ) (b : List ℕ) → SoundReverse limit b → length b ≡ reverse_slot_size * limit
reverse_length limit b h = length_side limit h.names b h.slots

-- a name placed where there is a place for its address, or taken, leaves a sound reverse side
module _ (limit : ℕ) (b : List ℕ) (h : SoundReverse limit b) (f : Family) (x n : List ℕ) where
  pub sound_placed : length x ≡ address_size f → HeldName n → has_place limit f x h.names ≡ true → SoundReverse limit (reverse_bytes limit (placed f x n h.names))
  unfolding reverse_bytes
  sound_placed size held has =
      record {
        names = placed f x n h.names;
        slots = record {
          each = every_placed f x n h.names (record { sized = size; proper = held.proper; lower = held.lower }) h.slots.each;
          room = room_placed f x n limit h.names has h.slots.room;
          form = refl;
        };
        single = single_placed f x n h.names h.single;
      }

  pub sound_taken : SoundReverse limit (reverse_bytes limit (taken f x n h.names))
  unfolding reverse_bytes
  sound_taken =
      record {
        names = taken f x n h.names;
        slots = record {
          each = every_taken f x n h.names h.slots.each;
          room = omega (arith, length_taken f x n h.names, h.slots.room);
          form = refl;
        };
        single = single_taken f x n h.names h.single;
      }
