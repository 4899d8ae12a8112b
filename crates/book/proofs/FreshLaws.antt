-- The blocks of a table's names in turn are its tidied book. Assumes nothing.
use Prim.Native.Nat.{ℕ, suc}
use mathlib.Core.Path.{◌≡◌, refl, sym, ap, ap₂, subst, ◌∙◌}
use mathlib.Core.List.{List, [], ◌∷◌, ◌++◌, append_assoc}
use mathlib.Core.Option.{Option, some}
use lib.ListN.{length, take}
use Rattle.base.specs.Answer.{value}
use Rattle.base.specs.Bytes.{overlay}
use Rattle.base.specs.Logic.{Every}
use Rattle.base.specs.declared.Answer.TheVariants.{Accepted}
use Rattle.base.proofs.Bytes.{taken_back}
use Rattle.base.proofs.Lists.{every_middle, map_append}
use Rattle.base.proofs.Tests.{eq_eq_bytes, ne_eq_bytes}
use Rattle.name.specs.Name.{canonical}
use Rattle.slots.specs.Entry.{names, Distinct}
use Rattle.slots.specs.Form.{TableEntry, WellFormed, Sound}
use Rattle.slots.proofs.Theorems.{one_sound_table}
use Rattle.table.specs.Steps.{find}
use Rattle.table.proofs.OthersLaws.{find_same, find_other}
use Rattle.book.specs.Notes.{Note, note_by, note_of, tidy_notes}
use Rattle.book.specs.Blocks.{block_bytes}
use Rattle.book.specs.Books.{blocks_from, tidied}
use Rattle.book.specs.Calls.{BlockWritten, BlocksWritten}
use Rattle.book.proofs.BlockLaws.{length_block}
use Rattle.book.proofs.CallLaws.{wrote}
use Rattle.book.proofs.TidyLaws.{before_apart}

-- an entry with others before it, of which none has its name, is found under it
find_behind : (n : List ℕ) (p : List TableEntry) (e : TableEntry) (r : List TableEntry) → Every (λ m. m ≡ n → ⊥) (names p) → e.name ≡ n → find n (p ++ e ∷ r) ≡ some e
find_behind n [] e r h own = find_same n e r (eq_eq_bytes e.name n own)
find_behind n (d ∷ p) e r (Every.more apart h) own = find_other n d (p ++ e ∷ r) (ne_eq_bytes d.name n apart) ∙ find_behind n p e r h own

module _ (limit : ℕ) (b : List ℕ) (s : Sound limit b) where
  module _ (p : List TableEntry) (e : TableEntry) (r : List TableEntry) (cut : s.table ≡ p ++ e ∷ r) where
    here : WellFormed e
    here = every_middle p r e (subst (Every WellFormed) cut s.slots.each)

    own_note : note_of e.name s.table ≡ Note.stands e
    unfolding note_of
    own_note =
        let apart = before_apart (names p) e.name (names r) (subst Distinct (ap names cut ∙ map_append (λ (c : TableEntry). c.name) p (e ∷ r)) s.distinct) in
        ap (λ (o : Option TableEntry). note_by e.name o) (ap (find e.name) cut ∙ find_behind e.name p e r apart refl)

    -- the block of one of the names
    own_block : (i : ℕ) (out left : List ℕ) (v : ℕ) → BlockWritten limit b e.name i out (Accepted v) left → take v left ≡ block_bytes i (Note.stands e)
    own_block i out left v h =
        let w = wrote limit b e.name i out h refl in
        let note : note_of (canonical e.name) w.sound.table ≡ Note.stands e = ap₂ note_of here.lower (one_sound_table limit b w.sound s) ∙ own_note in
        let size : v ≡ length (block_bytes i (Note.stands e)) = ap value w.answered ∙ sym (length_block i (Note.stands e) here) in
        ap₂ take size (w.bytes ∙ ap (λ (c : Note). overlay out 0 (block_bytes i c)) note) ∙ taken_back out (block_bytes i (Note.stands e))

  -- and those of all from one on
  blocks_in_turn : (i : ℕ) (p r : List TableEntry) (x : List ℕ) → s.table ≡ p ++ r → BlocksWritten limit b i (names r) x → x ≡ blocks_from i (tidy_notes r)
  unfolding blocks_from tidy_notes
  blocks_in_turn i p [] x cut (BlocksWritten.none e) = e
  blocks_in_turn i p (e ∷ r) x cut (BlocksWritten.more out left rest v h k same) =
      same
      ∙ ap₂ ◌++◌ (own_block p e r cut i out left v h) (blocks_in_turn (suc i) (p ++ e ∷ []) r rest (cut ∙ sym (append_assoc p (e ∷ []) r)) k)

  pub blocks_of_table : (x : List ℕ) → BlocksWritten limit b 0 (names s.table) x → x ≡ tidied s.table
  unfolding tidied
  blocks_of_table x h = blocks_in_turn 0 [] s.table x refl h
