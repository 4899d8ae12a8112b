-- The reader of a DHCID record's data: the bytes that its words spell, computed. For each of the two forms there is a guess at the bytes and a test of the
-- guess; that at base64 is tested by encoding it again, so that it need be right only for what is base64. It finds what SpellsDhcid of `dhcid_text` says
-- (proofs/DhcidReaderLaws.antt), and a reader of the grammar need not know it: no definition of meaning cites it.
use Rattle.std.specs.Prelude.{ℕ, ◌+◌, ◌*◌, ◌/◌, ◌%◌, Bool, List, [], ◌∷◌, eqb, ltb, length, take}
use Rattle.std.proofs.Math.Option.{Option, none, some, or_else}
use Rattle.base.specs.Bytes.{eq_bytes}
use Rattle.base.specs.Dhcid.{well_formed}
use Rattle.text.specs.Digits.{digit_value}
use Rattle.dhcid_text.specs.Dhcid.{base64, joined, marker, thirty_five}
use Rattle.dhcid_text.specs.Base64.{value64}
use Rattle.grammar.specs.Deciding.{provided, all}

-- ---- what either form asks of the bytes

abbrev pub is_byte : ℕ → Bool
is_byte b = ltb b 256

-- a guess bs itself, if it is bytes and passes refusal 15's test
unfoldable pub tested : List ℕ → Option (List ℕ)
tested bs = provided (all is_byte bs) (provided (well_formed bs) (some bs))

-- ---- base64

-- three bytes for each four characters. An = is read like the rest, so where it fills up a group the bytes go on past those that were encoded
unfoldable pub threes : List ℕ → List ℕ
threes [] = []
threes (p ∷ []) = []
threes (p ∷ q ∷ []) = []
threes (p ∷ q ∷ r ∷ []) = []
threes (p ∷ q ∷ r ∷ s ∷ t) =
    (value64 p * 4 + value64 q / 16) ∷ (value64 q % 16 * 16 + value64 r / 4) ∷ (value64 r % 4 * 64 + value64 s) ∷ threes t

-- a guess at the 35 bytes that t is the base64 of
unfoldable pub unbase64 : List ℕ → List ℕ
unbase64 t = take 35 (threes t)

-- the bytes that t is the base64 of
unfoldable pub base64_of : List ℕ → Option (List ℕ)
base64_of t = let bs = unbase64 t in provided (eq_bytes t (base64 bs)) (tested bs)

-- ---- the generic form

abbrev pub is_even : List ℕ → Bool
is_even w = eqb (length w % 2) 0

abbrev pub is_hex : ℕ → Bool
is_hex x = ltb (digit_value x) 16

-- the byte of each two hexadecimal digits
unfoldable pub unhex : List ℕ → List ℕ
unhex [] = []
unhex (x ∷ []) = []
unhex (x ∷ y ∷ t) = (digit_value x * 16 + digit_value y) ∷ unhex t

-- the bytes that the words spell in the generic form
unfoldable pub generic_of : List (List ℕ) → Option (List ℕ)
generic_of [] = none
generic_of (m ∷ []) = none
generic_of (m ∷ n ∷ ds) =
    let t = joined ds in
    provided (eq_bytes m marker) (provided (eq_bytes n thirty_five) (provided (all is_even ds) (provided (all is_hex t) (tested (unhex t)))))

-- ---- both forms

-- the 35 bytes that the words of a DHCID record's data spell, in base64 or in the generic form
unfoldable pub dhcid_of : List (List ℕ) → Option (List ℕ)
dhcid_of ws = or_else (base64_of (joined ws)) (generic_of ws)
