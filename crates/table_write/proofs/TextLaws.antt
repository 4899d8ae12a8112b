-- The text of an entry and of a table, part by part. Assumes nothing.
use Prim.Native.Nat.{ℕ, ◌+◌, ◌≤◌}
use mathlib.Core.Bool.{true, false, true≢false, false≢true}
use mathlib.Core.Path.{◌≡◌, refl, sym, ap, ◌∙◌}
use mathlib.Core.List.{List, [], ◌∷◌, ◌++◌, append_assoc, append-nil}
use mathlib.Core.Option.{Option, none, some}
use lib.ListN.{length, take, drop, length-append}
use lib.Seq.{take-add}
use Rattle.name.specs.Promise.{text_of}
use Rattle.grammar.specs.Listing.{RecordType}
use Rattle.grammar.specs.Whole.{rdata_size}
use Rattle.entry.specs.Held.{type_number}
use Rattle.writer.specs.Line.{line, lines}
use Rattle.writer.specs.Parts.{rest_part}
use Rattle.writer.proofs.LineLaws.{rest_line, lines_append}
use Rattle.slots.specs.Fields.{in_field, there}
use Rattle.slots.specs.Form.{TableEntry, field, WellFormed}
use Rattle.slots.specs.Sizes.{field_size}
use Rattle.slots.specs.declared.Rtype.{Rtype}
use Rattle.slots.specs.declared.Rtype.TheVariants.{A, Aaaa, Dhcid}
use Rattle.records.proofs.LengthLaws.{entry_most}
use Rattle.records.specs.Written.{record_if, entry_records, table_records, listing_of}
use Rattle.table_write.specs.Promise.{type_of, field_text, entry_text}

-- ---- the line of a field

-- the record that there may be, by 35 bytes of which its data are the first
module _ (n : List ℕ) (k : RecordType) where
  line_none : (o : Option (List ℕ)) → there o ≡ false → lines (record_if n k o) ≡ []
  unfolding lines
  line_none none h = refl
  line_none (some x) h = absurd (true≢false h)

  line_some : (o : Option (List ℕ)) (bs : List ℕ) → there o ≡ true → length bs ≡ 35 → take (rdata_size k) bs ≡ field (rdata_size k) o
      → lines (record_if n k o) ≡ text_of n ++ rest_part (type_number k) bs
  unfolding lines
  line_some none bs h long first = absurd (false≢true h)
  line_some (some x) bs h long first = append-nil (line (record { owner = n; rtype = k; rdata = x })) ∙ sym (rest_line k x bs long first n)

same_size : (k : Rtype) → field_size k ≡ rdata_size (type_of k)
same_size A = refl
same_size Aaaa = refl
same_size Dhcid = refl

module _ (k : Rtype) (e : TableEntry) where
  pub field_none : there (in_field k e) ≡ false → field_text k e ≡ []
  unfolding field_text
  field_none h = line_none e.name (type_of k) (in_field k e) h

  pub field_some : (bs : List ℕ) → there (in_field k e) ≡ true → length bs ≡ 35 → take (field_size k) bs ≡ field (field_size k) (in_field k e)
      → field_text k e ≡ text_of e.name ++ rest_part (type_number (type_of k)) bs
  unfolding field_text
  field_some bs h long first = line_some e.name (type_of k) (in_field k e) bs h long (rw (sym (same_size k)) first)

-- ---- the lines of an entry

pub entry_text_lem : (e : TableEntry) → entry_text e ≡ field_text A e ++ field_text Aaaa e ++ field_text Dhcid e
unfolding entry_text field_text entry_records
entry_text_lem e =
    let a = record_if e.name RecordType.A e.a in
    let aaaa = record_if e.name RecordType.AAAA e.aaaa in
    let dhcid = record_if e.name RecordType.DHCID e.holder in
    lines_append (a ++ aaaa) dhcid ∙ ap (λ (l : List ℕ). l ++ lines dhcid) (lines_append a aaaa)

pub length_entry : (e : TableEntry) → length (entry_text e) ≡ length (field_text A e) + length (field_text Aaaa e) + length (field_text Dhcid e)
length_entry e =
    ap length (entry_text_lem e) ∙ length-append (field_text A e ++ field_text Aaaa e) (field_text Dhcid e)
    ∙ ap (λ (n : ℕ). n + length (field_text Dhcid e)) (length-append (field_text A e) (field_text Aaaa e))

pub text_most : (e : TableEntry) → WellFormed e → length (entry_text e) ≤ 883
unfolding entry_text
text_most e w = entry_most e w

-- ---- the listing of a table

pub listing_none : listing_of [] ≡ []
unfolding listing_of table_records lines
listing_none = refl

pub listing_more : (e : TableEntry) (t : List TableEntry) → listing_of (e ∷ t) ≡ entry_text e ++ listing_of t
unfolding listing_of table_records entry_text
listing_more e t = lines_append (entry_records e) (table_records t)

pub listing_append : (p r : List TableEntry) → listing_of (p ++ r) ≡ listing_of p ++ listing_of r
listing_append [] r = ap (λ (l : List ℕ). l ++ listing_of r) (sym listing_none)
listing_append (e ∷ p) r =
    listing_more e (p ++ r) ∙ ap (λ (l : List ℕ). entry_text e ++ l) (listing_append p r)
    ∙ sym (append_assoc (entry_text e) (listing_of p) (listing_of r)) ∙ ap (λ (l : List ℕ). l ++ listing_of r) (sym (listing_more e p))

-- one entry more
pub listing_next : (t : List TableEntry) (i : ℕ) (e : TableEntry) (r : List TableEntry) → drop i t ≡ e ∷ r → listing_of (take (i + 1) t) ≡ listing_of (take i t) ++ entry_text e
listing_next t i e r cut =
    ap listing_of (take-add i 1 t ∙ ap (λ (l : List TableEntry). take i t ++ take 1 l) cut) ∙ listing_append (take i t) (e ∷ [])
    ∙ ap (λ (l : List ℕ). listing_of (take i t) ++ l) (listing_more e [] ∙ ap (λ (l : List ℕ). entry_text e ++ l) listing_none ∙ append-nil (entry_text e))
