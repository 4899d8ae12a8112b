-- How long the listing of a table is. Document 01, "Writing" (docs/RULES.md, 7.8): at most 883 bytes a name, 273 for its A, 300 for its AAAA and 310
-- for its DHCID. Assumes nothing.
use Prim.Native.Nat.{ℕ, ◌*◌, ◌≤◌}
use mathlib.Core.Path.{◌≡◌, ap, ◌∙◌}
use mathlib.Core.List.{List, [], ◌∷◌, ◌++◌, append-nil}
use mathlib.Core.Option.{Option, none, some}
use native.Mathlib.Omega.{arith}
use lib.ListN.{length, length-append}
use Rattle.base.specs.Logic.{Every, IfSome}
use Rattle.name.proofs.WireLaws.{proper_short}
use Rattle.grammar.specs.Listing.{RecordType, ResourceRecord}
use Rattle.grammar.specs.Whole.{rdata_size}
use Rattle.writer.specs.Line.{line, lines}
use Rattle.writer.proofs.LineLaws.{longest_line, line_most, lines_append}
use Rattle.slots.specs.Form.{TableEntry, WellFormed}
use Rattle.slots.proofs.LaidLaws.{holder_length}
use Rattle.records.specs.Written.{record_if, entry_records, table_records, listing_of}

field_most : (n : List ℕ) (k : RecordType) (o : Option (List ℕ)) → length n ≤ 255 → IfSome (λ x. length x ≡ rdata_size k) o → length (lines (record_if n k o)) ≤ longest_line k
unfolding lines
field_most n k none short size = omega arith
field_most n k (some x) short size =
    let r : ResourceRecord = record { owner = n; rtype = k; rdata = x } in
    omega (arith, ap length (append-nil (line r)), line_most n k x short size)

pub entry_most : (e : TableEntry) → WellFormed e → length (lines (entry_records e)) ≤ 883
unfolding entry_records
entry_most e w =
    let short = proper_short e.name w.proper in
    let a = record_if e.name RecordType.A e.a in
    let aaaa = record_if e.name RecordType.AAAA e.aaaa in
    let dhcid = record_if e.name RecordType.DHCID e.holder in
    omega (
      arith,
      ap length (lines_append (a ++ aaaa) dhcid ∙ ap (λ (l : List ℕ). l ++ lines dhcid) (lines_append a aaaa)),
      length-append (lines a ++ lines aaaa) (lines dhcid),
      length-append (lines a) (lines aaaa),
      field_most e.name RecordType.A e.a short w.a,
      field_most e.name RecordType.AAAA e.aaaa short w.aaaa,
      field_most e.name RecordType.DHCID e.holder short (holder_length e.holder w.dhcid),
    )

pub listing_most : (t : List TableEntry) → Every WellFormed t → length (listing_of t) ≤ 883 * length t
unfolding listing_of table_records lines
listing_most [] Every.none = omega arith
listing_most (e ∷ t) (Every.more w each) =
    omega (
      arith,
      ap length (lines_append (entry_records e) (table_records t)),
      length-append (lines (entry_records e)) (lines (table_records t)),
      entry_most e w,
      listing_most t each,
    )
