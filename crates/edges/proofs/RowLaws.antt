-- The rows, computed: functions that are proved to find what the definitions say are run on all of them at once, and a law carries that to each row. Assumes nothing.
use Prim.Native.Nat.{ℕ}
use mathlib.Core.Bool.{Bool, true, false}
use mathlib.Core.Path.{◌≡◌, refl, sym, ap, subst}
use mathlib.Core.List.{List, [], ◌∷◌, ◌++◌, map, head-eq_of_cons-eq, tail-eq_of_cons-eq}
use mathlib.Core.Option.{Option, none, some, bind, or_else, some-ne-none}
use Rattle.base.specs.Bytes.{ascii, big_endian, in_bytes, eq_bytes}
use Rattle.base.specs.Dhcid.{identifier_type, digest_type, well_formed}
use Rattle.base.specs.Logic.{Every}
use Rattle.name.specs.Label.{is_upper, is_lower, is_digit, is_label_byte, lower}
use Rattle.name.specs.Name.{wire, text, canonical, SpellsName}
use Rattle.name.specs.Promise.{dotted, text_of}
use Rattle.name.specs.ProperTest.{accepts, is_proper}
use Rattle.name.specs.Promise.{lead}
use Rattle.name.specs.TextTest.{shifted, valid}
use Rattle.name.proofs.Theorems.{canonical_form, spelled}
use Rattle.name.proofs.WireLaws.{passes_proper, fails_proper}
use Rattle.text.specs.Digits.{digit_value}
use Rattle.dhcid_text.specs.Dhcid.{digit64, base64, joined}
use Rattle.dhcid_text.specs.Base64.{value64}
use Rattle.grammar.specs.Listing.{is_visible, kind_of, mnemonic}
use Rattle.grammar.specs.Outcome.{Outcome, Checked}
use Rattle.grammar.specs.AddressReader.{fields_of, numbers_of, a_of, aaaa_of}
use Rattle.grammar.specs.Content.{is_word, type_of, head_of, rdata_of, content_of}
use Rattle.grammar.specs.Deciding.{provided, all}
use Rattle.grammar.proofs.Deciding.{not_found}
use Rattle.grammar.specs.DhcidReader.{tested, threes, unbase64, base64_of, unhex, generic_of, dhcid_of}
use Rattle.grammar.proofs.DhcidReaderLaws.{dhcid_reads}
use Rattle.grammar.specs.OwnerReader.{owner_of}
use Rattle.grammar.specs.Reader.{read_up_to, read, check}
use Rattle.grammar.proofs.ReaderLaws.{checks}
use Rattle.grammar.specs.Scan.{scan}
use Rattle.message.specs.Options.{having, is_repeated, option_of}
use Rattle.message.specs.Request.{bytes_of, refused_request, accepted, identifier_bytes}
use Rattle.message4.specs.Message4.{hlen, has_duid, has_wire_name, judge4}
use Rattle.message4.specs.Options4.{located4}
use Rattle.message4.specs.Reading4.{field, fields_after, fields4, options4, is_bootrequest, after_header4, request4}
use Rattle.message4.proofs.Theorems.{answer4}
use Rattle.edges.specs.Rows.{Row, name, identifier, last_group, listing, request_with, digits, bytes, Holds, labels, rows, Hold}

-- ---- names

text_if : Bool → List ℕ → Option (List ℕ)
text_if true n = some (text_of (canonical n))
text_if false n = none

-- ---- what is found, and what a row says

data Found : Type 0 where
  list : Option (List ℕ) → Found
  outcome : Outcome → Found

abbrev the_list : Found → Option (List ℕ)
the_list (list o) = o
the_list (outcome o) = none

abbrev the_outcome : Found → Outcome
the_outcome (list o) = Outcome.refused 0 0
the_outcome (outcome o) = o

abbrev or_none : Option (List ℕ) → List ℕ
or_none none = []
or_none (some l) = l

found : Row → Found
found (name n t) = list (text_if (is_proper n) n)
found (identifier d k i) = let r = request4 (request_with d) in list (some (r.refusal ∷ r.id_type ∷ identifier_bytes (request_with d) r))
found (last_group w o) = list (dhcid_of ((digits ++ ascii w) ∷ []))
found (listing t o) = outcome (check 65536 (ascii t))

said : Row → Found
said (name n t) = list t
said (identifier d k i) = list (some (0 ∷ k ∷ i))
said (last_group w none) = list none
said (last_group w (some bs)) = list (some (bytes ++ bs))
said (listing t o) = outcome o

-- ---- a row that says what is found holds

name_holds : (n : List ℕ) (t : Option (List ℕ)) (b : Bool) → is_proper n ≡ b → text_if b n ≡ t → Holds (name n t)
unfolding text_if
name_holds n none true p e = absurd (some-ne-none (text_of (canonical n)) e)
name_holds n none false p e = fails_proper n p
name_holds n (some t) true p e =
    let proper = passes_proper n p in
    (proper, subst (λ (w : List ℕ). SpellsName w (canonical n)) (ap or_none e) (spelled (canonical n) (canonical_form n proper).proper))
name_holds n (some t) false p e = absurd (some-ne-none t (sym e))

identifier_holds : (d i : List ℕ) (k : ℕ) → ((request4 (request_with d)).refusal ∷ (request4 (request_with d)).id_type ∷ identifier_bytes (request_with d) (request4 (request_with d))) ≡ 0 ∷ k ∷ i
    → Holds (identifier d k i)
identifier_holds d i k e =
    let rest = tail-eq_of_cons-eq e in
    (request4 (request_with d), answer4 (request_with d), head-eq_of_cons-eq e, head-eq_of_cons-eq rest, tail-eq_of_cons-eq rest)

row_holds : (r : Row) → found r ≡ said r → Holds r
unfolding found said
row_holds (name n t) e = name_holds n t (is_proper n) refl (ap the_list e)
row_holds (identifier d k i) e = identifier_holds d i k (ap (λ (f : Found). or_none (the_list f)) e)
row_holds (last_group w none) e = λ bs s. not_found dhcid_reads ((digits ++ ascii w) ∷ []) (ap the_list e) bs s
row_holds (last_group w (some bs)) e = dhcid_reads.is ((digits ++ ascii w) ∷ []) (bytes ++ bs) (ap the_list e)
row_holds (listing t o) e = subst (Checked 65536 (ascii t)) (ap the_outcome e) (checks 65536 (ascii t))

rows_hold : (rs : List Row) → map found rs ≡ map said rs → Every Holds rs
rows_hold [] e = Every.none
rows_hold (r ∷ rs) e = Every.more {a = r} (row_holds r (head-eq_of_cons-eq e)) (rows_hold rs (tail-eq_of_cons-eq e))

-- ---- all of them

computed : map found rows ≡ map said rows
unfolding found said rows labels request_with digits bytes is_proper text_if accepts wire text text_of dotted canonical lower is_upper is_lower is_digit is_label_byte ascii request4 after_header4 is_bootrequest options4 fields4 fields_after field located4 having is_repeated option_of hlen has_duid has_wire_name judge4 bytes_of refused_request accepted identifier_bytes big_endian in_bytes identifier_type digest_type well_formed lead shifted valid digit_value digit64 base64 joined value64 is_visible kind_of mnemonic provided all eq_bytes scan owner_of fields_of numbers_of a_of aaaa_of bind or_else tested threes unbase64 base64_of unhex generic_of dhcid_of is_word type_of head_of rdata_of content_of read_up_to read check
computed = refl

pub all_hold : Hold
unfolding Hold
all_hold = rows_hold rows computed
