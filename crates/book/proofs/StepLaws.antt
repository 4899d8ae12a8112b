-- The block that is written after an accepted step replays that step behind the old book. Assumes nothing.
use Prim.Native.Nat.{ℕ, ◌+◌, ◌*◌, ◌^◌, ◌≤◌, ◌<◌}
use mathlib.Core.Path.{◌≡◌, refl, sym, ap, ap₂, subst, ◌∙◌}
use mathlib.Core.Bool.{Bool, true, false}
use mathlib.Core.Logic.{inl, inr}
use mathlib.Core.List.{List, [], ◌∷◌, ◌++◌}
use mathlib.Core.Option.{Option, none, some, some-injective, none-ne-some}
use native.Mathlib.Omega.{arith}
use lib.ListN.{length, take}
use lib.Seq.{take_all}
use Rattle.base.specs.Answer.{number, value}
use Rattle.base.specs.Bytes.{eq_bytes, overlay}
use Rattle.base.specs.Logic.{Every}
use Rattle.base.specs.declared.Answer.{Answer}
use Rattle.base.specs.declared.Answer.TheVariants.{Accepted}
use Rattle.base.proofs.AnswerLaws.{accepted≢refused}
use Rattle.base.proofs.Bytes.{length_overlay, overlay_to_end, taken_back}
use Rattle.base.proofs.Lists.{every_middle}
use Rattle.base.proofs.Tests.{eq_bytes_true}
use Rattle.block.specs.Sealed.{block_size}
use Rattle.name.specs.Name.{Proper, canonical}
use Rattle.name.proofs.Theorems.{canonical_form}
use Rattle.slots.specs.Effect.{entered, refreshed, taken_over, deleted}
use Rattle.slots.specs.Entry.{family_of, names, Distinct}
use Rattle.slots.specs.Form.{TableEntry, WellFormed, table_bytes, IsTable, Sound}
use Rattle.slots.specs.Sizes.{slot_size}
use Rattle.slots.specs.SlotTests.{HeldName}
use Rattle.slots.specs.declared.Family.{Family}
use Rattle.slots.proofs.Theorems.{one_table, table_length}
use Rattle.slots.proofs.TableLaws.{length_table}
use Rattle.table.specs.Steps.{StepOutcome, find}
use Rattle.table.specs.Calls.{Adds, Removes, Clears}
use Rattle.table.proofs.CaseLaws.{Adding, add_case, Removing, remove_case, Clearing, clear_case}
use Rattle.table.proofs.DemandLaws.{add_leaves, remove_leaves, clear_leaves}
use Rattle.table.proofs.FoundLaws.{Standing, standing}
use Rattle.table.proofs.OthersLaws.{find_same, find_other}
use Rattle.table.proofs.SoundLaws.{SoundEntries, keeps_name, entered_name, taken_keeps_name}
use Rattle.book.specs.Notes.{Note, noted, after, note_by, note_of}
use Rattle.book.specs.Blocks.{block_bytes, Fit, Follows, Says}
use Rattle.book.specs.Calls.{BlockWritten, Replays}
use Rattle.book.proofs.BlockLaws.{length_block}
use Rattle.book.proofs.CallLaws.{Wrote, wrote, Replayed, replayed}
use Rattle.book.proofs.EffectLaws.{ToldBy, told_appended, told_changed, told_gone}
use Rattle.book.proofs.NoteLaws.{find_nothing}
use Rattle.book.proofs.SoundLaws.{table_after_lem}
use Rattle.book.proofs.StoredLaws.{stored_book, stored_table}

-- ---- what is written for a name is fit to be said

-- an entry that is found has the name, and is one of them
pub found_one : (n : List ℕ) (t : List TableEntry) (e : TableEntry) → Every WellFormed t → find n t ≡ some e → WellFormed e
found_one n t e each found = go (standing n t)
  where
    go : Standing n t → WellFormed e
    go (Standing.nowhere p f) = absurd (none-ne-some e (sym f ∙ found))
    go (Standing.at p d r cut here there change gone) = subst WellFormed (some-injective d e (sym there ∙ found)) (every_middle p r d (subst (Every WellFormed) cut each))

pub fit_note : (n : List ℕ) (t : List TableEntry) → HeldName n → Every WellFormed t → Fit (note_of n t)
unfolding note_of
fit_note n t held each = go (find n t) refl
  where
    go : (o : Option TableEntry) → find n t ≡ o → Fit (note_by n o)
    go none f = held
    go (some e) f = found_one n t e each f

pub held_canonical : (name : List ℕ) → Proper name → HeldName (canonical name)
held_canonical name p = let c = canonical_form name p in record { proper = c.proper; lower = c.again }

-- and has the name under which it was sought
pub found_named : (n : List ℕ) (t : List TableEntry) (e : TableEntry) → find n t ≡ some e → e.name ≡ n
found_named n [] e found = absurd (none-ne-some e (sym (find_nothing n) ∙ found))
found_named n (d ∷ t) e found = go (eq_bytes d.name n) refl (found_named n t e)
  where
    go : (b : Bool) → eq_bytes d.name n ≡ b → (find n t ≡ some e → e.name ≡ n) → e.name ≡ n
    go true s ih = ap (λ (y : TableEntry). y.name) (sym (some-injective d e (sym (find_same n d t s) ∙ found))) ∙ eq_bytes_true d.name n s
    go false s ih = ih (sym (find_other n d t s) ∙ found)

-- ---- what an accepted step does to the name's entry, as the note written after it tells

module _ (t : List TableEntry) (n d : List ℕ) (f : Family) (x : List ℕ) where
  pub told_add : (limit policy : ℕ) (o : StepOutcome (List ℕ)) → Adding eq_bytes t n d f x limit policy o → number o.answer ≡ 0 → ToldBy n t o.table
  told_add limit policy o (Adding.put_last found room e) z =
      subst (λ (y : StepOutcome (List ℕ)). ToldBy n t y.table) (sym e) (told_appended n (entered n d f x) t found (entered_name n d f x))
  told_add limit policy o (Adding.full found room e) z = absurd (omega (arith, z, ap (λ (y : StepOutcome (List ℕ)). number y.answer) e))
  told_add limit policy o (Adding.by_hand c found holder e) z = absurd (omega (arith, z, ap (λ (y : StepOutcome (List ℕ)). number y.answer) e))
  told_add limit policy o (Adding.same_client c k found holder same e) z =
      subst (λ (y : StepOutcome (List ℕ)). ToldBy n t y.table) (sym e) (told_changed n (refreshed f x) t c (keeps_name f (some x)) found (found_named n t c found))
  told_add limit policy o (Adding.first_wins c k found holder differs p e) z = absurd (omega (arith, z, ap (λ (y : StepOutcome (List ℕ)). number y.answer) e))
  told_add limit policy o (Adding.latest_wins c k found holder differs p e) z =
      subst (λ (y : StepOutcome (List ℕ)). ToldBy n t y.table) (sym e) (told_changed n (taken_over d f x) t c (taken_keeps_name d f x) found (found_named n t c found))

  pub told_remove : Distinct (names t) → (o : StepOutcome (List ℕ)) → Removing eq_bytes t n d f x o → number o.answer ≡ 0 → ToldBy n t o.table
  told_remove distinct o (Removing.not_held found e) z = absurd (omega (arith, z, ap (λ (y : StepOutcome (List ℕ)). number y.answer) e))
  told_remove distinct o (Removing.by_hand c found holder e) z = absurd (omega (arith, z, ap (λ (y : StepOutcome (List ℕ)). number y.answer) e))
  told_remove distinct o (Removing.another c k found holder differs e) z = absurd (omega (arith, z, ap (λ (y : StepOutcome (List ℕ)). number y.answer) e))
  told_remove distinct o (Removing.differs c k found holder same a e) z = absurd (omega (arith, z, ap (λ (y : StepOutcome (List ℕ)). number y.answer) e))
  told_remove distinct o (Removing.kept c k found holder same a more e) z =
      subst (λ (y : StepOutcome (List ℕ)). ToldBy n t y.table) (sym e) (told_changed n (deleted f) t c (keeps_name f none) found (found_named n t c found))
  told_remove distinct o (Removing.gone c k found holder same a more e) z =
      subst (λ (y : StepOutcome (List ℕ)). ToldBy n t y.table) (sym e) (told_gone n t c distinct found)

pub told_clear : (t : List TableEntry) (n : List ℕ) → Distinct (names t) → (o : StepOutcome (List ℕ)) → Clearing t n o → number o.answer ≡ 0 → ToldBy n t o.table
told_clear t n distinct o (Clearing.not_held found e) z = absurd (omega (arith, z, ap (λ (y : StepOutcome (List ℕ)). number y.answer) e))
told_clear t n distinct o (Clearing.cleared c found e) z = subst (λ (y : StepOutcome (List ℕ)). ToldBy n t y.table) (sym e) (told_gone n t c distinct found)

-- ---- the old book with that block

module _ (limit : ℕ) (book area : List ℕ) (q : Answer) (b : List ℕ) (k : ℕ) (blocks : length book ≡ block_size * k) (below : k < 2 ^ 32) (h : Replays limit book area q b) (done : number q ≡ 0) where
  old : Replayed limit book area q b
  old = replayed limit book area h done

  module _ (name : List ℕ) (b' out : List ℕ) (w : Answer) (left : List ℕ) (written : BlockWritten limit b' name k out w left) (stored : number w ≡ 0) where
    pub stored_name : Wrote limit b' name k out w left
    stored_name = wrote limit b' name k out written stored

    -- the entries of b are those that the book leaves, and those of b' come of them by what the name's note says
    module _ (s : Sound limit b) (told : ToldBy (canonical name) s.table stored_name.sound.table) where
      was : s.table ≡ after old.book.notes
      was =
          let size : length b ≡ slot_size * limit = table_length limit b s in
          one_table limit s.table (after old.book.notes) b s.slots (subst (IsTable limit (after old.book.notes)) (take_all (slot_size * limit) b (omega (arith, size))) old.table)

      now : List TableEntry
      now = stored_name.sound.table

      note : Note
      note = note_of (canonical name) now

      bytes : take (value w) left ≡ block_bytes k note
      unfolding note now
      bytes =
          let size : value w ≡ length (block_bytes k note) =
          ap value stored_name.answered ∙ sym (length_block k note (fit_note (canonical name) now (held_canonical name stored_name.proper) stored_name.sound.slots.each)) in
          ap₂ take size stored_name.bytes ∙ taken_back out (block_bytes k note)

      says : Says k (after old.book.notes) (take (value w) left) note
      unfolding note now
      says =
          record {
            number = below;
            fit = fit_note (canonical name) now (held_canonical name stored_name.proper) stored_name.sound.slots.each;
            bytes = bytes;
            follows = subst (Follows note) was told.follows;
          }

      made : noted note (after old.book.notes) ≡ now
      unfolding note now
      made = ap (noted note) (sym was) ∙ told.replays

      pub replays_told : Replays limit (book ++ take (value w) left) area (Accepted 0) b'
      unfolding now
      replays_told =
          let few : length (noted note (after old.book.notes)) ≤ limit = omega (arith, ap length made, stored_name.sound.slots.room) in
          let more = stored_book limit book old.book k blocks note (take (value w) left) says few in
          let table : after more.notes ≡ now = stored_table limit book old.book k blocks note (take (value w) left) says few ∙ made in
          let size : length b ≡ slot_size * limit = table_length limit b s in
          let whole : length area ≡ slot_size * limit = omega (arith, area_length, size) in
          Replays.replayed more old.fits refl
          (stored_name.sound.slots.form
          ∙ sym (overlay_to_end area 0 (table_bytes limit now) (let l = length_table limit now b' stored_name.sound.slots in let m = ap length stored_name.sound.slots.form in omega (arith, whole, l, m)))
          ∙ ap (λ (u : List TableEntry). overlay area 0 (table_bytes limit u)) (sym table))
        where
          area_length : length b ≡ length area
          area_length =
              let l : length (table_bytes limit (after old.book.notes)) ≡ slot_size * limit = length_table limit (after old.book.notes) _ (table_after_lem limit book old.book) in
              ap length old.bytes ∙ length_overlay area 0 (table_bytes limit (after old.book.notes)) (omega (arith, l, old.fits))

    abbrev table_of : (u : List TableEntry) → SoundEntries limit u → b' ≡ table_bytes limit u → u ≡ stored_name.sound.table
    table_of u s e = one_table limit u stored_name.sound.table b' (record { each = s.each; room = s.room; form = e }) stored_name.sound.slots

    module _ (r : Answer) (v : ℕ) (accepted : r ≡ Accepted v) where
      pub behind_add : (dhcid : List ℕ) (family : ℕ) (address : List ℕ) (policy : ℕ) → Adds limit b name dhcid family address policy r b'
          → Replays limit (book ++ take (value w) left) area (Accepted 0) b'
      unfolding Adds
      behind_add dhcid family address policy (inl f) = absurd (accepted≢refused (sym accepted ∙ f.answer))
      behind_add dhcid family address policy (inr s) =
          let n = canonical name in
          let t = s.sound.table in
          let c = canonical_form name s.all_hold.1.1.0 in
          let leaves = add_leaves limit b s.sound n dhcid (family_of family) address policy c.proper c.again s.all_hold.1.1.1.0 s.all_hold.1.1.1.1.0 in
          replays_told s.sound
          (subst (ToldBy n t) (table_of _ leaves.sound s.table)
          (told_add t n dhcid (family_of family) address limit policy _ (add_case eq_bytes t n dhcid (family_of family) address limit policy) (ap number (sym s.answer ∙ accepted))))

      pub behind_remove : (dhcid : List ℕ) (family : ℕ) (address : List ℕ) → Removes limit b name dhcid family address r b' → Replays limit (book ++ take (value w) left) area (Accepted 0) b'
      unfolding Removes
      behind_remove dhcid family address (inl f) = absurd (accepted≢refused (sym accepted ∙ f.answer))
      behind_remove dhcid family address (inr s) =
          let n = canonical name in
          let t = s.sound.table in
          replays_told s.sound
          (subst (ToldBy n t) (table_of _ (remove_leaves limit b s.sound n dhcid (family_of family) address).sound s.table)
          (told_remove t n dhcid (family_of family) address s.sound.distinct _ (remove_case eq_bytes t n dhcid (family_of family) address) (ap number (sym s.answer ∙ accepted))))

      pub behind_clear : Clears limit b name r b' → Replays limit (book ++ take (value w) left) area (Accepted 0) b'
      unfolding Clears
      behind_clear (inl f) = absurd (accepted≢refused (sym accepted ∙ f.answer))
      behind_clear (inr s) =
          let n = canonical name in
          let t = s.sound.table in
          replays_told s.sound
          (subst (ToldBy n t) (table_of _ (clear_leaves limit b s.sound n).sound s.table)
          (told_clear t n s.sound.distinct _ (clear_case t n) (ap number (sym s.answer ∙ accepted))))
