-- What the two passes over the slots keep, and what is written one after the other. Assumes nothing.
use Prim.Native.Nat.{ℕ, ◌+◌, ◌-◌, ◌*◌, ◌≤◌, ◌<◌}
use mathlib.Core.Bool.{true}
use mathlib.Core.Path.{◌≡◌, refl, sym, ap, ap₂, ◌∙◌}
use mathlib.Core.List.{List, [], ◌++◌}
use native.Mathlib.Nat.{add-zero, zero-add}
use native.Mathlib.Omega.{arith}
use lib.ListN.{length, take, drop, get_or, length-append, length-drop, take-append-drop}
use lib.Seq.{take_all}
use Rattle.base.specs.Bytes.{overlay}
use Rattle.base.proofs.Bytes.{overlay_append, overlay_none}
use Rattle.name.specs.Promise.{text_of}
use Rattle.name.proofs.DottedLaws.{length_text_of}
use Rattle.entry.specs.Held.{type_number}
use Rattle.writer.specs.Parts.{rest_part}
use Rattle.slots.specs.Fields.{in_field, there}
use Rattle.slots.specs.Form.{TableEntry, WellFormed, field, slot_bytes, IsSlot, IsTable}
use Rattle.slots.specs.Sizes.{field_size, slot_size, most_names}
use Rattle.slots.specs.declared.Rtype.{Rtype}
use Rattle.slots.specs.declared.Rtype.TheVariants.{A, Aaaa, Dhcid}
use Rattle.slots.proofs.NameLaws.{EntryAt, entry_at}
use Rattle.slots.proofs.TableLaws.{some_at}
use Rattle.records.specs.Written.{listing_of}
use Rattle.table_write.specs.Promise.{type_of, field_text, entry_text, SlotFits, Puts}
use Rattle.table_write.proofs.TextLaws.{field_some, entry_text_lem, listing_none, listing_append, listing_next}
use Rattle.records.proofs.LengthLaws.{listing_most}

-- ---- one text behind the other

pub puts_none : (x : List ℕ) (at : ℕ) (to : List ℕ) → x ≡ [] → Puts x at to at to
puts_none x at to e =
    record { ends = sym (ap (λ (l : List ℕ). at + length l) e ∙ add-zero at); bytes = sym (ap (overlay to at) e ∙ overlay_none to at) }

pub puts_on : {x y : List ℕ} {at middle end : ℕ} {to d u : List ℕ} → at ≤ length to → Puts x at to middle d → Puts y middle d end u → Puts (x ++ y) at to end u
puts_on {x} {y} {at} {middle} {end} {to} {d} {u} within p q =
    record {
      ends = omega (arith, p.ends, q.ends, length-append x y);
      bytes = q.bytes ∙ ap₂ (λ (l : List ℕ) (k : ℕ). overlay l k y) p.bytes p.ends ∙ overlay_append to at x y within;
    }

-- ---- a record that is there, by its name n, the number v of its type and 35 bytes bs that begin with its data

module _ (k : Rtype) (e : TableEntry) (bs : List ℕ) {n : List ℕ} {v : ℕ} (name : n ≡ e.name) (type : v ≡ type_number (type_of k)) (held : there (in_field k e) ≡ true)
    (from : (length bs ≡ 35) × (take (field_size k) bs ≡ field (field_size k) (in_field k e))) where
  line_parts : field_text k e ≡ text_of n ++ rest_part v bs
  line_parts = field_some k e bs held from.0 from.1 ∙ ap₂ (λ (m : List ℕ) (w : ℕ). text_of m ++ rest_part w bs) (sym name) (sym type)

  pub line_size : length (field_text k e) ≡ length n - 1 + length (rest_part v bs)
  line_size = ap length line_parts ∙ length-append (text_of n) (rest_part v bs) ∙ ap (λ (l : ℕ). l + length (rest_part v bs)) (length_text_of n)

  pub line_put : {at middle end : ℕ} {to d u : List ℕ} → at ≤ length to → middle ≡ at + (length n - 1) → d ≡ overlay to at (text_of n)
      → u ≡ overlay d middle (rest_part v bs) → end ≡ middle + length (rest_part v bs) → Puts (field_text k e) at to end u
  line_put {at} {middle} {end} {to} {d} {u} within here owner rest ends =
      rw line_parts
      (puts_on within (record { ends = here ∙ ap (λ (l : ℕ). at + l) (sym (length_text_of n)); bytes = owner }) (record { ends = ends; bytes = rest }))

-- ---- a slot

pub fits_slot : {text : TableEntry → List ℕ} {s : List ℕ} {at : ℕ} {to : List ℕ} → SlotFits text s at to → IsSlot s
unfolding IsSlot
fits_slot f = (f.entry, f.well_formed, f.form)

-- the three lines one behind the other
pub entry_put : (e : TableEntry) {at b c end : ℕ} {to u v w : List ℕ} → at ≤ length to
    → Puts (field_text A e) at to b u → Puts (field_text Aaaa e) b u c v → Puts (field_text Dhcid e) c v end w → Puts (entry_text e) at to end w
entry_put e within p q r = rw (entry_text_lem e) (puts_on within (puts_on within p q) r)

-- ---- the slots up to i

-- the first i entries have n bytes of text
pub record Measured (t : List TableEntry) (i n : ℕ) : Type 0 where
  pub low : i ≤ length t
  pub size : n ≡ length (listing_of (take i t))

pub measured_none : (t : List TableEntry) → Measured t 0 0
measured_none t = record { low = omega arith; size = sym (ap length listing_none) }

-- there is no entry more
whole : (t : List TableEntry) (i : ℕ) → i ≤ length t → drop i t ≡ [] → take i t ≡ t
whole t i low none_left = take_all i t (omega (arith, ap length none_left, length-drop i t))

module _ {t : List TableEntry} {i n : ℕ} (m : Measured t i n) where
  pub measured_end : drop i t ≡ [] → n ≡ length (listing_of t)
  measured_end none_left = m.size ∙ ap (λ (l : List TableEntry). length (listing_of l)) (whole t i m.low none_left)

  module _ {e : TableEntry} {r : List TableEntry} (at : EntryAt t i e r) where
    pub measured_more : {k : ℕ} → k ≡ n + length (entry_text e) → Measured t (i + 1) k
    measured_more more =
        let next = listing_next t i e r at.cut in
        record { low = omega (arith, at.within); size = omega (arith, m.size, ap length next, length-append (listing_of (take i t)) (entry_text e)) }

    -- the text up to there is no longer than the whole
    pub measured_within : n + length (entry_text e) ≤ length (listing_of t)
    measured_within =
        let cut = ap listing_of (sym (take-append-drop (i + 1) t)) ∙ listing_append (take (i + 1) t) (drop (i + 1) t) in
        omega (
          arith,
          (measured_more refl).size,
          ap length cut,
          length-append (listing_of (take (i + 1) t)) (listing_of (drop (i + 1) t)),
        )

-- and that text was written into `to`, which then is d
pub record Written (t : List TableEntry) (to d : List ℕ) (i n : ℕ) : Type 0 where
  pub measured : Measured t i n
  pub bytes : d ≡ overlay to 0 (listing_of (take i t))

pub written_none : (t : List TableEntry) (to : List ℕ) → Written t to to 0 0
written_none t to = record { measured = measured_none t; bytes = sym (ap (overlay to 0) listing_none ∙ overlay_none to 0) }

module _ {t : List TableEntry} {to d : List ℕ} {i n : ℕ} (w : Written t to d i n) where
  pub written_end : drop i t ≡ [] → d ≡ overlay to 0 (listing_of t)
  written_end none_left = w.bytes ∙ ap (λ (l : List TableEntry). overlay to 0 (listing_of l)) (whole t i w.measured.low none_left)

  pub written_more : {e : TableEntry} {r : List TableEntry} {k : ℕ} {u : List ℕ} → EntryAt t i e r → Puts (entry_text e) n d k u → Written t to u (i + 1) k
  written_more {e} {r} at p =
      let before : Puts (listing_of (take i t)) 0 to n d = record { ends = w.measured.size ∙ sym (zero-add (length (listing_of (take i t)))); bytes = w.bytes } in
      record {
        measured = measured_more w.measured at p.ends;
        bytes = (puts_on (omega arith) before p).bytes ∙ ap (overlay to 0) (sym (listing_next t i e r at.cut));
      }

-- ---- the slot at i

pub record UsedSlot (t : List TableEntry) (i : ℕ) (s : List ℕ) : Type 0 where
  pub entry : TableEntry
  pub later : List TableEntry
  pub at : EntryAt t i entry later
  pub well_formed : WellFormed entry
  pub form : s ≡ slot_bytes entry

pub used_slot : (t : List TableEntry) (b : List ℕ) (h : IsTable most_names t b) (i : ℕ) → i ≤ length t → i < most_names → (get_or b (slot_size * i) 0 ≡ 0 → ⊥) → UsedSlot t i (take (slot_size * i + slot_size - slot_size * i) (drop (slot_size * i) b))
used_slot t b h i low more nz =
    let u = some_at most_names t b h i low more nz in
    let size : slot_size * i + slot_size - slot_size * i ≡ slot_size = omega arith in
    record {
      entry = u.entry;
      later = u.later;
      at = entry_at t i u.entry u.later u.order;
      well_formed = u.well_formed;
      form = ap (λ (n : ℕ). take n (drop (slot_size * i) b)) size ∙ u.slot;
    }

-- a table of 64 names has a listing of at most 56,512 bytes
pub listing_short : {t : List TableEntry} {b : List ℕ} → IsTable most_names t b → length (listing_of t) ≤ 883 * most_names
listing_short {t} h = omega (arith, listing_most t h.each, h.room)
