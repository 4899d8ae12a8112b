-- How a block is written: what is around a slot, a name that stands, one that is gone, and a name as a table has it. Assumes nothing.
use Prim.Native.Nat.{ℕ, suc, ◌+◌, ◌*◌, ◌-◌, ◌≤◌}
use mathlib.Core.Path.{◌≡◌, refl, sym, ap, ap₂, subst, ◌∙◌}
use mathlib.Core.List.{List, [], ◌∷◌, ◌++◌, append_assoc}
use mathlib.Core.Option.{none, some}
use native.Mathlib.Omega.{arith}
use lib.ListN.{length, take, drop, set, replicate, length-append, length-replicate}
use lib.Seq.{take_at, drop_at, take-add, length-take-le}
use Rattle.base.specs.Bytes.{overlay, big_endian}
use Rattle.base.proofs.Bytes.{length_overlay, take_overlay, drop_overlay, overlay_append, set_overlay, length_big_endian}
use Rattle.block.specs.Sealed.{sealed}
use Rattle.name.specs.Name.{Proper, canonical}
use Rattle.name.proofs.NameLaws.{length_canonical}
use Rattle.name.proofs.WireLaws.{proper_short}
use Rattle.slots.specs.Entry.{position}
use Rattle.slots.specs.Fields.{bare}
use Rattle.slots.specs.Form.{TableEntry, WellFormed, slot_bytes, IsSlot, IsTable}
use Rattle.slots.specs.Sizes.{slot_size}
use Rattle.slots.proofs.LaidLaws.{length_slot}
use Rattle.slots.proofs.SplitLaws.{entry_well_formed, entry_within, slot_there}
use Rattle.slots.proofs.TableLaws.{length_table}
use Rattle.table.specs.Steps.{find}
use Rattle.table.proofs.FoundLaws.{Standing, standing}
use Rattle.book.specs.Notes.{Note, note_by, note_of}
use Rattle.book.specs.Blocks.{body, block_bytes}
use Rattle.book_block.specs.Promise.{framed}
use Rattle.book_block.proofs.FaultLaws.{bare_form}

-- ---- what is around the slot

-- number, kind and padding are written, and the slot stays
module _ (b n z : List ℕ) (k : ℕ) (long : length b ≡ 512) (four : length n ≡ 4) (rest : length z ≡ 163) where
  -- number and kind are the first five bytes
  head_put : set (overlay b 0 n) 4 k ≡ overlay b 0 (n ++ k ∷ [])
  head_put =
      let size : length (overlay b 0 n) ≡ length b = length_overlay b 0 n (omega arith) in
      let behind : 4 ≡ 0 + length n = omega arith in
      set_overlay (overlay b 0 n) 4 k (omega arith) ∙ ap (λ (j : ℕ). overlay (overlay b 0 n) j (k ∷ [])) behind ∙ overlay_append b 0 n (k ∷ []) (omega arith)

  -- so many are they
  five : 0 + length (n ++ k ∷ []) ≡ 5
  five = omega (arith, length-append n (k ∷ []))

  -- they stand there
  head_there : take 5 (overlay b 0 (n ++ k ∷ [])) ≡ n ++ k ∷ []
  head_there = ap (λ (j : ℕ). take j (overlay b 0 (n ++ k ∷ []))) (sym five) ∙ take_overlay b 0 (n ++ k ∷ []) (omega arith)

  -- and what is behind them is as it was
  slot_stays : drop 5 (overlay b 0 (n ++ k ∷ [])) ≡ drop 5 b
  slot_stays = ap (λ (j : ℕ). drop j (overlay b 0 (n ++ k ∷ []))) (sym five) ∙ drop_overlay b 0 (n ++ k ∷ []) (omega arith) ∙ ap (λ (j : ℕ). drop j b) five

  -- with the padding, the bytes that are checked
  body_framed : take 480 (overlay (set (overlay b 0 n) 4 k) 317 z) ≡ n ++ (k ∷ take 312 (drop 5 b) ++ z)
  body_framed =
      let h = n ++ k ∷ [] in
      let size : length (overlay b 0 h) ≡ length b = length_overlay b 0 h (omega (arith, five)) in
      let all : 480 ≡ 317 + length z = omega arith in
      ap (λ (d : List ℕ). take 480 (overlay d 317 z)) head_put
      ∙ ap (λ (j : ℕ). take j (overlay (overlay b 0 h) 317 z)) all
      ∙ take_overlay (overlay b 0 h) 317 z (omega arith)
      ∙ ap (λ (l : List ℕ). l ++ z) (take-add 5 312 (overlay b 0 h) ∙ ap₂ (λ (u v : List ℕ). u ++ take 312 v) head_there slot_stays)
      ∙ append_assoc h (take 312 (drop 5 b)) z
      ∙ append_assoc n (k ∷ []) (take 312 (drop 5 b) ++ z)

-- and then the check
pub frame_by : (b n b' d e : List ℕ) (i k : ℕ) → length b ≡ 512 → n ≡ big_endian 4 i → b' ≡ overlay b 0 n → d ≡ overlay (set b' 4 k) 317 (replicate 163 0) → e ≡ sealed (take 480 d)
    → e ≡ framed i k (take 312 (drop 5 b))
unfolding framed
frame_by b n b' d e i k long number head zeros check =
    check
    ∙ ap (λ (x : List ℕ). sealed (take 480 x)) (zeros ∙ ap (λ (x : List ℕ). overlay (set x 4 k) 317 (replicate 163 0)) head)
    ∙ ap sealed
    (body_framed b n (replicate 163 0) k long (ap length number ∙ length_big_endian 4 i) (length-replicate {A = ℕ} 163 0)
    ∙ ap (λ (x : List ℕ). x ++ (k ∷ take 312 (drop 5 b) ++ replicate 163 0)) number)

-- ---- the slot

-- what was written stands where it was written
written_there : (to : List ℕ) (at : ℕ) (from : List ℕ) → at ≤ length to → take (length from) (drop at (overlay to at from)) ≡ from
unfolding overlay
written_there to at from fits =
    ap (λ (l : List ℕ). take (length from) (drop at l)) (append_assoc (take at to) from (drop (at + length from) to))
    ∙ ap (take (length from)) (drop_at (take at to) (from ++ drop (at + length from) to) at (length-take-le at to fits))
    ∙ take_at from (drop (at + length from) to) (length from) refl

-- a slot is written, and then what is around it
around : (b s d e : List ℕ) (i k : ℕ) → length b ≡ 512 → length s ≡ 312 → d ≡ overlay b 5 s → e ≡ framed i k (take 312 (drop 5 d)) → e ≡ framed i k s
around b s d e i k long size put frame =
    let there : take 312 (drop 5 d) ≡ s = ap (λ (x : List ℕ). take 312 (drop 5 x)) put ∙ ap (λ (j : ℕ). take j (drop 5 (overlay b 5 s))) (sym size) ∙ written_there b 5 s (omega arith) in
    frame ∙ ap (framed i k) there

-- a slot of the table has its size
pub slot_long : (s : List ℕ) → IsSlot s → length s ≡ 312
unfolding IsSlot
slot_long s h = ap length h.2 ∙ length_slot h.0 h.1

-- the block of a name that stands
pub stands_by : (b s d e : List ℕ) (i : ℕ) → length b ≡ 512 → length s ≡ 312 → d ≡ overlay b 5 s → e ≡ framed i 1 (take 312 (drop 5 d)) → (x : TableEntry) → s ≡ slot_bytes x
    → e ≡ block_bytes i (Note.stands x)
unfolding framed block_bytes body
stands_by b s d e i long size put frame x same = around b s d e i 1 long size put frame ∙ ap (framed i 1) same

-- the slot of a name that is gone is written in three parts: length, name and zeros
module _ (n : List ℕ) (proper : Proper n) where
  -- the three parts
  bare_bytes : List ℕ
  bare_bytes = length n ∷ (canonical n ++ replicate (317 - (6 + length n)) 0)

  -- they are the slot of the name with nothing under it
  bare_is : bare_bytes ≡ slot_bytes (bare (canonical n))
  unfolding bare_bytes
  bare_is =
      let same = length_canonical n in
      let less : 317 - (6 + length n) ≡ 311 - length (canonical n) = omega arith in
      ap₂ (λ (v z : ℕ). v ∷ (canonical n ++ replicate z 0)) (sym same) less ∙ sym (bare_form (canonical n) (omega (arith, proper_short n proper)))

  -- which has a slot's size
  bare_long : length bare_bytes ≡ 312
  unfolding bare_bytes
  bare_long =
      omega (arith, length-append (canonical n) (replicate (317 - (6 + length n)) 0), length_canonical n, proper_short n proper, length-replicate {A = ℕ} (317 - (6 + length n)) 0)

  -- one after the other they are written where the slot is
  bare_put : (b m d : List ℕ) → length b ≡ 512 → m ≡ overlay (set b 5 (length n)) 6 (canonical n) → d ≡ overlay m (6 + length n) (replicate (317 - (6 + length n)) 0)
      → d ≡ overlay b 5 bare_bytes
  unfolding bare_bytes
  bare_put b m d long named zeros =
      let same = length_canonical n in
      let behind : 6 + length n ≡ 5 + suc (length (canonical n)) = omega arith in
      let first : m ≡ overlay b 5 (length n ∷ canonical n) =
      named ∙ ap (λ (x : List ℕ). overlay x 6 (canonical n)) (set_overlay b 5 (length n) (omega arith)) ∙ overlay_append b 5 (length n ∷ []) (canonical n) (omega arith) in
      zeros
      ∙ ap₂ (λ (x : List ℕ) (j : ℕ). overlay x j (replicate (317 - (6 + length n)) 0)) first behind
      ∙ overlay_append b 5 (length n ∷ canonical n) (replicate (317 - (6 + length n)) 0) (omega arith)

  -- the block of a name that is gone
  pub gone_by : (b m d e : List ℕ) (i : ℕ) → length b ≡ 512 → m ≡ overlay (set b 5 (length n)) 6 (canonical n) → d ≡ overlay m (6 + length n) (replicate (317 - (6 + length n)) 0)
      → e ≡ framed i 0 (take 312 (drop 5 d)) → e ≡ block_bytes i (Note.gone (canonical n))
  unfolding framed block_bytes body
  gone_by b m d e i long named zeros frame = around b bare_bytes d e i 0 long bare_long (bare_put b m d long named zeros) frame ∙ ap (framed i 0) bare_is

-- ---- as a table has it

-- the entry that stands under a name, and where its slot is
pub record Found (n : List ℕ) (t : List TableEntry) (b : List ℕ) (i : ℕ) : Type 0 where
  pub entry : TableEntry
  pub found : find n t ≡ some entry
  pub fit : WellFormed entry
  pub slot : take (slot_size * i + slot_size - slot_size * i) (drop (slot_size * i) b) ≡ slot_bytes entry
  pub within : slot_size * i + slot_size ≤ length b

-- there is one if the name's position is not behind the last entry
pub found_at : (k : ℕ) (n : List ℕ) (t : List TableEntry) (b : List ℕ) → IsTable k t b → (i : ℕ) → i ≡ position n t → (i ≡ length t → ⊥) → Found n t b i
found_at k n t b h i index fewer = go (standing n t)
  where
    go : Standing n t → Found n t b i
    go (Standing.nowhere last f) = absurd (fewer (index ∙ last))
    go (Standing.at p e r cut here f change gone) =
        let own = subst (λ (u : List TableEntry). IsTable k u b) cut h in
        let place : i ≡ length p = index ∙ here in
        let size : slot_size * i + slot_size - slot_size * i ≡ slot_size = omega arith in
        record {
          entry = e;
          found = f;
          fit = entry_well_formed k p e r b own;
          slot = ap₂ (λ (j m : ℕ). take j (drop (slot_size * m) b)) size place ∙ slot_there k p e r b own;
          within = omega (arith, place, entry_within k p e r b own, length_table k t b h);
        }

-- the note of a name that stands
pub note_stands : (n : List ℕ) (t : List TableEntry) (e : TableEntry) → find n t ≡ some e → note_of n t ≡ Note.stands e
unfolding note_of
note_stands n t e f = ap (note_by n) f

-- and of one that does not
pub note_gone : (n : List ℕ) (t : List TableEntry) → find n t ≡ none → note_of n t ≡ Note.gone n
unfolding note_of
note_gone n t f = ap (note_by n) f
