-- The texts of an owner, of a type and of data, as they are written, are words: one byte or more, and each a byte of words. Assumes nothing.
use Prim.Native.Nat.{ℕ, ◌+◌, ◌*◌, ◌/◌, ◌%◌, ◌≤◌, ◌<◌}
use mathlib.Core.Bool.{Bool, true, cond}
use mathlib.Core.Path.{◌≡◌, refl, sym, ap, subst, ◌∙◌}
use mathlib.Core.List.{List, [], ◌∷◌}
use native.Mathlib.Omega.{arith}
use lib.Dec.{ltb}
use lib.ListN.{length, length-append}
use borrow.Author.Tests.{ltb-true}
use Rattle.base.specs.Ascii.{is_in}
use Rattle.base.specs.Bytes.{ascii}
use Rattle.base.specs.Logic.{Every}
use Rattle.base.proofs.DhcidLaws.{dhcid_length}
use Rattle.base.proofs.Lists.{every_append, every_map, every_by}
use Rattle.base.proofs.Tests.{and_left, below, at_each}
use Rattle.name.specs.Label.{is_upper, is_lower, is_digit, is_label_byte, Label}
use Rattle.name.specs.Name.{text, Proper}
use Rattle.name.specs.Promise.{text_of}
use Rattle.name.proofs.LabelLaws.{label_set}
use Rattle.name.proofs.Theorems.{spelled}
use Rattle.text.specs.Digits.{digit_value, separated, decimal, hex_digit}
use Rattle.address.specs.Address.{four_of, four_digits, written_a, written_aaaa}
use Rattle.dhcid_text.specs.Dhcid.{digit64, base64}
use Rattle.text.proofs.DigitLaws.{ten_digits, decimal_number}
use Rattle.text.proofs.PartLaws.{total, total_separated}
use Rattle.address.proofs.WrittenLaws.{octet_parts, length_octets}
use Rattle.dhcid_text.proofs.Base64Laws.{length_base64}
use Rattle.grammar.specs.Listing.{is_visible, kind_of, is_word_byte, RecordType, mnemonic}
use Rattle.writer.specs.Line.{RdataOf, rdata_text}
use Rattle.writer.proofs.PartLaws.{length_aaaa}

abbrev WordBytes : List ℕ → Type 0
WordBytes w = Every (λ b. is_word_byte b ≡ true) w

-- what an entry may have as one of its words
pub record Word (w : List ℕ) : Type 0 where
  pub some : 1 ≤ length w
  pub each : Every (λ b. is_word_byte b ≡ true) w

-- ---- bytes, by computing

label_word : ℕ → Bool
label_word b = cond (is_label_byte b) (is_word_byte b) true

all_label : below label_word 128 ≡ true
unfolding below label_word is_label_byte is_upper is_lower is_digit is_visible kind_of
all_label = refl

label_word_lem : (b : ℕ) → is_label_byte b ≡ true → is_word_byte b ≡ true
unfolding label_word is_in
label_word_lem b h =
    let low : b < 128 = ltb-true b 128 (and_left (ltb b 128) _ (label_set b ∙ h)) in
    sym (ap (λ (t : Bool). cond t (is_word_byte b) true) h) ∙ at_each label_word 128 all_label b low

all_decimal : below (λ d. is_word_byte (48 + d)) 10 ≡ true
unfolding below is_visible kind_of
all_decimal = refl

decimal_word : (x : ℕ) → digit_value x < 10 → is_word_byte x ≡ true
decimal_word x h = ap is_word_byte (ten_digits x h) ∙ at_each (λ d. is_word_byte (48 + d)) 10 all_decimal (digit_value x) h

all_hex : below (λ v. is_word_byte (hex_digit v)) 16 ≡ true
unfolding below hex_digit is_visible kind_of
all_hex = refl

hex_word : (v : ℕ) → v < 16 → is_word_byte (hex_digit v) ≡ true
hex_word v h = at_each (λ k. is_word_byte (hex_digit k)) 16 all_hex v h

all_digit64 : below (λ v. is_word_byte (digit64 v)) 64 ≡ true
unfolding below digit64 is_visible kind_of
all_digit64 = refl

digit64_word : (v : ℕ) → v < 64 → is_word_byte (digit64 v) ≡ true
digit64_word v h = at_each (λ k. is_word_byte (digit64 k)) 64 all_digit64 v h

-- dot, colon and =
dot_word : is_word_byte 46 ≡ true
unfolding kind_of is_visible
dot_word = refl

colon_word : is_word_byte 58 ≡ true
unfolding kind_of is_visible
colon_word = refl

pad_word : is_word_byte 61 ≡ true
unfolding kind_of is_visible
pad_word = refl

-- ---- the owner

text_some : (ls : List (List ℕ)) → 1 ≤ length ls → 1 ≤ length (text ls)
unfolding text ascii
text_some [] some = absurd (omega arith)
text_some (l ∷ ls) some = omega (arith, length-append l (46 ∷ text ls))

text_each : (ls : List (List ℕ)) → Every Label ls → WordBytes (text ls)
unfolding text ascii
text_each [] Every.none = Every.none
text_each (l ∷ ls) (Every.more h hs) = every_append l (46 ∷ text ls) (every_by label_word_lem h.bytes) (Every.more dot_word (text_each ls hs))

pub owner_word : (n : List ℕ) → Proper n → Word (text_of n)
owner_word n p =
    let s = spelled n p in
    subst Word (sym s.word) (record { some = text_some s.labels s.name.some; each = text_each s.labels s.name.labels })

-- ---- the type

pub type_word_lem : (k : RecordType) → Word (mnemonic k)
unfolding mnemonic ascii kind_of is_visible
type_word_lem RecordType.A = record { some = omega arith; each = Every.more refl Every.none }
type_word_lem RecordType.AAAA = record { some = omega arith; each = Every.more refl (Every.more refl (Every.more refl (Every.more refl Every.none))) }
type_word_lem RecordType.DHCID =
    record { some = omega arith; each = Every.more refl (Every.more refl (Every.more refl (Every.more refl (Every.more refl Every.none)))) }

-- ---- the data

separated_each : (s : ℕ) → is_word_byte s ≡ true → (ps : List (List ℕ)) → Every WordBytes ps → WordBytes (separated s ps)
unfolding separated
separated_each s hs [] h = Every.none
separated_each s hs (p ∷ []) (Every.more hp h) = hp
separated_each s hs (p ∷ q ∷ ps) (Every.more hp h) = every_append p (s ∷ separated s (q ∷ ps)) hp (Every.more hs (separated_each s hs (q ∷ ps) h))

count_total : (ps : List (List ℕ)) → length ps ≤ total ps
unfolding total
count_total [] = omega arith
count_total (p ∷ ps) = omega (arith, count_total ps)

octet_each : (b : ℕ) → b < 256 → WordBytes (decimal 3 b)
octet_each b h = every_by decimal_word (decimal_number 2 b (omega arith)).digits

a_word : (bs : List ℕ) → Every (λ b. b < 256) bs → length bs ≡ 4 → Word (written_a bs)
unfolding written_a
a_word bs bytes four =
    record {
      some =
          omega (
            arith,
            length_octets bs,
            count_total (octet_parts bs),
            total_separated 46 (octet_parts bs) (omega (arith, length_octets bs)),
          );
      each = separated_each 46 dot_word (octet_parts bs) (every_map (decimal 3) octet_each bs bytes);
    }

four_each : (bs : List ℕ) → Every (λ b. b < 256) bs → Every WordBytes (four_digits bs)
unfolding four_digits four_of
four_each [] h = Every.none
four_each (a ∷ []) h = Every.none
four_each (a ∷ b ∷ bs) (Every.more ha (Every.more hb h)) =
    Every.more
    (Every.more (hex_word (a / 16) (omega arith))
    (Every.more (hex_word (a % 16) (omega arith)) (Every.more (hex_word (b / 16) (omega arith)) (Every.more (hex_word (b % 16) (omega arith)) Every.none))))
    (four_each bs h)

aaaa_word : (bs : List ℕ) → Every (λ b. b < 256) bs → length bs ≡ 16 → Word (written_aaaa bs)
aaaa_word bs bytes sixteen =
    record { some = omega (arith, length_aaaa bs sixteen); each = unfold written_aaaa in separated_each 58 colon_word (four_digits bs) (four_each bs bytes) }

base64_each : (bs : List ℕ) → Every (λ b. b < 256) bs → WordBytes (base64 bs)
unfolding base64
base64_each [] h = Every.none
base64_each (a ∷ []) (Every.more ha h) =
    Every.more (digit64_word (a / 4) (omega arith)) (Every.more (digit64_word (a % 4 * 16) (omega arith)) (Every.more pad_word (Every.more pad_word Every.none)))
base64_each (a ∷ b ∷ []) (Every.more ha (Every.more hb h)) =
    Every.more (digit64_word (a / 4) (omega arith))
    (Every.more (digit64_word (a % 4 * 16 + b / 16) (omega arith)) (Every.more (digit64_word (b % 16 * 4) (omega arith)) (Every.more pad_word Every.none)))
base64_each (a ∷ b ∷ c ∷ bs) (Every.more ha (Every.more hb (Every.more hc h))) =
    Every.more (digit64_word (a / 4) (omega arith))
    (Every.more (digit64_word (a % 4 * 16 + b / 16) (omega arith))
    (Every.more (digit64_word (b % 16 * 4 + c / 64) (omega arith)) (Every.more (digit64_word (c % 64) (omega arith)) (base64_each bs h))))

dhcid_word : (bs : List ℕ) → Every (λ b. b < 256) bs → length bs ≡ 35 → Word (base64 bs)
dhcid_word bs bytes long = record { some = omega (arith, length_base64 bs long); each = base64_each bs bytes }

pub rdata_word : (k : RecordType) (bs : List ℕ) → Every (λ b. b < 256) bs → RdataOf k bs → Word (rdata_text k bs)
unfolding rdata_text RdataOf
rdata_word RecordType.A bs bytes e = a_word bs bytes e
rdata_word RecordType.AAAA bs bytes e = aaaa_word bs bytes e
rdata_word RecordType.DHCID bs bytes e = dhcid_word bs bytes (dhcid_length bs e)
