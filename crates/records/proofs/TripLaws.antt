-- A table that is written and loaded again is the same table, and a listing that is loaded and written again has the same records. Assumes nothing.
use Prim.Native.Nat.{ℕ, ◌*◌, ◌≤◌, ◌<◌}
use mathlib.Core.Path.{◌≡◌, sym, ap, ap₂, subst, ◌∙◌}
use mathlib.Core.List.{List}
use native.Mathlib.Omega.{arith}
use lib.ListN.{length, take, drop, length-map}
use Rattle.base.specs.Answer.{number, value}
use Rattle.base.specs.Bytes.{overlay}
use Rattle.base.specs.Logic.{Every}
use Rattle.base.proofs.Bytes.{taken_back, left_behind}
use Rattle.base.proofs.Lists.{every_take}
use Rattle.base.specs.Order.{AllHold}
use Rattle.base.specs.declared.Answer.{Answer}
use Rattle.base.specs.declared.Answer.TheVariants.{Accepted}
use Rattle.grammar.specs.Listing.{RecordType, ResourceRecord, Spells}
use Rattle.grammar.specs.Outcome.{accepted, Checked}
use Rattle.grammar.proofs.Theorems.{one_list}
use Rattle.slots.specs.Form.{table_bytes, Sound}
use Rattle.slots.specs.Sizes.{slot_size}
use Rattle.slots.proofs.Theorems.{one_sound_table, table_length}
use Rattle.records.specs.Written.{table_records, listing_of}
use Rattle.records.specs.Gathered.{data_of, Single, owners, table_of}
use Rattle.records.specs.Calls.{Writes, load_tests, Loads}
use Rattle.records.proofs.RoundLaws.{owners_again, single_again, table_again}
use Rattle.records.proofs.SameLaws.{same_owners, same_data}
use Rattle.records.proofs.WrittenLaws.{listing_spells}
use Rattle.records.proofs.LengthLaws.{listing_most}
use Rattle.records.proofs.WritingLaws.{text_written}
use Rattle.records.proofs.LoadingLaws.{was_loaded, filled}

-- ---- writing and then loading

module _ (places : ℕ) (b : List ℕ) (s : Sound places b) (bytes : Every (λ x. x < 256) b) where
  -- the listing that is written for a table within the limit is accepted, with the table's records
  written_checked : (limit : ℕ) → 883 * places ≤ limit → Checked limit (listing_of s.table) (accepted (table_records s.table))
  written_checked limit room =
      Checked.whole (omega (arith, listing_most s.table s.slots.each, s.slots.room)) (listing_spells places s.table b s.slots bytes)

  -- and they pass the tests of a load
  written_passes : (area : List ℕ) → slot_size * places ≤ length area → AllHold (load_tests places (table_records s.table) area)
  written_passes area fits =
      let many : length (owners (table_records s.table)) ≡ length s.table = ap length (owners_again s.table s.slots.each s.distinct) ∙ length-map s.table (λ e. e.name) in
      (single_again s.table s.slots.each s.distinct, (omega (arith, many, s.slots.room), (fits, tt)))

  written_loaded : (limit : ℕ) {area after : List ℕ} {q : Answer} → 883 * places ≤ limit → slot_size * places ≤ length area → Loads limit places (listing_of s.table) area q after
      → (q ≡ Accepted 0) × (after ≡ overlay area 0 b)
  written_loaded limit {area} room fits l =
      let w = was_loaded limit places (listing_of s.table) area (written_checked limit room) (written_passes area fits) l in
      let again : table_bytes places (table_of (table_records s.table)) ≡ b = ap (table_bytes places) (table_again s.table s.slots.each s.distinct) ∙ sym s.slots.form in
      (w.0, w.1 ∙ ap (overlay area 0) again)

  pub round_trip : (limit : ℕ) {out left area after : List ℕ} {r q : Answer} → 883 * places ≤ limit → Writes places b out r left → number r ≡ 0 → slot_size * places ≤ length area
      → Loads limit places (take (value r) left) area q after → (q ≡ Accepted 0) × (take (slot_size * places) after ≡ b) × (drop (slot_size * places) after ≡ drop (slot_size * places) area)
  round_trip limit {area} {after} {q} room w done fits l =
      let back = written_loaded limit room fits (subst (λ (t : List ℕ). Loads limit places t area q after) (text_written places b _ s w done) l) in
      let size : slot_size * places ≡ length b = sym (table_length places b s) in
      (back.0, ap₂ take size back.1 ∙ taken_back area b, ap₂ drop size back.1 ∙ left_behind area b ∙ ap (λ (k : ℕ). drop k area) (sym size))

-- ---- loading and then writing

module _ (limit places : ℕ) (t area : List ℕ) {q : Answer} {left : List ℕ} (l : Loads limit places t area q left) (done : number q ≡ 0) where
  -- the table that was loaded is that of the records that the listing spells
  pub loaded_is : (rs : List ResourceRecord) → Spells t rs → (s : Sound places (take (slot_size * places) left)) → s.table ≡ table_of rs
  loaded_is rs spelled s =
      let f = filled limit places t area l done in
      one_sound_table places (take (slot_size * places) left) s f.sound ∙ f.table ∙ ap table_of (one_list t f.records rs f.spelled spelled)

  -- what is then written spells the same names in the same order, each with the same data of each type
  pub written_back : {rs : List ResourceRecord} {out after : List ℕ} {r : Answer} → Every (λ x. x < 256) left → Spells t rs → Writes places (take (slot_size * places) left) out r after → number r ≡ 0
      → (qs : List ResourceRecord) × Spells (take (value r) after) qs × (owners qs ≡ owners rs) × ((n : List ℕ) (k : RecordType) → data_of n k qs ≡ data_of n k rs)
  written_back {rs} {out} bytes spelled w wrote =
      let f = filled limit places t area l done in
      let b = take (slot_size * places) left in
      let u = f.sound.table in
      let again : table_of (table_records u) ≡ table_of rs = table_again u f.sound.slots.each f.sound.distinct ∙ loaded_is rs spelled f.sound in
      let single = subst Single (one_list t f.records rs f.spelled spelled) f.single in (
        table_records u,
        subst (λ (text : List ℕ). Spells text (table_records u)) (sym (text_written places b out f.sound w wrote)) (listing_spells places u b f.sound.slots (every_take (slot_size * places) left bytes)),
        same_owners (table_records u) rs again,
        same_data (table_records u) rs again (single_again u f.sound.slots.each f.sound.distinct) single,
      )
