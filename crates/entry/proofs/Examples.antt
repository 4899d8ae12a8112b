-- An entry with a comment, as it is read: the functions are computed on it. Assumes nothing.
use mathlib.Core.Path.{◌≡◌, refl}
use mathlib.Core.Option.{bind}
use mathlib.Core.List.{[], ◌∷◌}
use Rattle.base.specs.Bytes.{ascii, eq_bytes}
use Rattle.name.specs.Label.{is_upper, is_lower, is_digit, is_label_byte, lower}
use Rattle.name.specs.Promise.{lead}
use Rattle.name.specs.TextTest.{shifted, valid}
use Rattle.text.specs.Digits.{digit_value}
use Rattle.grammar.specs.Listing.{is_visible, kind_of, mnemonic, RecordType}
use Rattle.grammar.specs.Deciding.{provided}
use Rattle.grammar.specs.Scan.{scan}
use Rattle.grammar.specs.OwnerReader.{owner_of}
use Rattle.grammar.specs.AddressReader.{fields_of, numbers_of, a_of}
use Rattle.grammar.specs.Content.{is_word, type_of, head_of, rdata_of, content_of}
use Rattle.entry.specs.EntryAt.{record_before, entry_at}

pub commented : entry_at (ascii "a. A 1.2.3.4 ;a. A 1.2.3.4") 0 ≡ record_before (record { owner = 1 ∷ 97 ∷ 0 ∷ []; rtype = RecordType.A; rdata = 1 ∷ 2 ∷ 3 ∷ 4 ∷ [] }) 26
unfolding ascii eq_bytes is_upper is_lower is_digit is_label_byte lower lead shifted valid digit_value is_visible kind_of mnemonic provided scan owner_of fields_of numbers_of a_of bind is_word type_of head_of rdata_of content_of record_before entry_at
commented = refl
