-- The rows of specs/Examples.antt hold: the functions are computed on them, and the laws carry that to the definitions. Assumes nothing.
use mathlib.Core.Path.{◌≡◌, refl, subst}
use mathlib.Core.Option.{bind, or_else}
use mathlib.Core.List.{List, [], ◌∷◌, map, head-eq_of_cons-eq, tail-eq_of_cons-eq}
use Rattle.base.specs.Bytes.{ascii, big_endian, in_bytes, eq_bytes}
use Rattle.base.specs.Dhcid.{identifier_type, digest_type, well_formed}
use Rattle.base.specs.Logic.{Every}
use Rattle.name.specs.Label.{is_upper, is_lower, is_digit, is_label_byte, lower}
use Rattle.name.specs.Name.{wire}
use Rattle.name.specs.Promise.{lead}
use Rattle.name.specs.TextTest.{shifted, valid}
use Rattle.text.specs.Digits.{digit_value}
use Rattle.dhcid_text.specs.Dhcid.{digit64, base64, joined}
use Rattle.dhcid_text.specs.Base64.{value64}
use Rattle.grammar.specs.Listing.{is_visible, kind_of, mnemonic}
use Rattle.grammar.specs.Outcome.{Outcome, Answered}
use Rattle.grammar.specs.Examples.{Row, of, an_a, tank, client, client_dhcid, rows, Hold}
use Rattle.grammar.specs.Deciding.{provided, all}
use Rattle.grammar.specs.Scan.{scan}
use Rattle.grammar.specs.OwnerReader.{owner_of}
use Rattle.grammar.specs.AddressReader.{fields_of, numbers_of, a_of, aaaa_of}
use Rattle.grammar.specs.DhcidReader.{tested, threes, unbase64, base64_of, unhex, generic_of, dhcid_of}
use Rattle.grammar.specs.Content.{is_word, type_of, head_of, rdata_of, content_of}
use Rattle.grammar.specs.Reader.{read_up_to, read, check, answer}
use Rattle.grammar.proofs.ReaderLaws.{answers}

-- what the function answers to a row's text
answer_to : Row → Outcome
answer_to r = answer r.limit r.places (ascii r.text)

hold_by : (rs : List Row) → map answer_to rs ≡ map (λ (r : Row). r.outcome) rs → Hold rs
unfolding Hold answer_to
hold_by [] e = Every.none
hold_by (r ∷ rs) e =
    Every.more (subst (Answered r.limit r.places (ascii r.text)) (head-eq_of_cons-eq e) (answers r.limit r.places (ascii r.text)))
    (hold_by rs (tail-eq_of_cons-eq e))

computed : map answer_to rows ≡ map (λ (r : Row). r.outcome) rows
unfolding answer_to rows of an_a tank client client_dhcid wire ascii big_endian in_bytes identifier_type digest_type well_formed is_upper is_lower is_digit is_label_byte lower lead shifted valid digit_value digit64 base64 joined value64 is_visible kind_of mnemonic provided all eq_bytes scan owner_of fields_of numbers_of a_of aaaa_of bind or_else tested threes unbase64 base64_of unhex generic_of dhcid_of is_word type_of head_of rdata_of content_of read_up_to read check answer
computed = refl

-- every row's answer is that of its text, by the definitions
pub examples : Hold rows
examples = hold_by rows computed
