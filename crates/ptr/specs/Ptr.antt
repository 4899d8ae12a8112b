-- The PTR name of an address: the name under which its PTR record stands. Document 02, K7 (docs/RULES.md, 12.1): in wire form and in lower case; refused
-- 12, 16, 13. A refused call leaves the output as it was.
use Rattle.std.specs.Prelude.{ℕ, ◌/◌, ◌%◌, ◌≤◌, ◌≡◌, List, [], ◌∷◌, ◌++◌, map, reverse, length}
use Rattle.base.specs.Bytes.{ascii, overlay}
use Rattle.base.specs.Family.{KnownFamily}
use Rattle.base.specs.Order.{Test, AllHold, FirstFault}
use Rattle.base.specs.Refusal.{unknown_setting, output_short, address_length}
use Rattle.base.specs.declared.Answer.{Answer}
use Rattle.base.specs.declared.Answer.TheVariants.{Accepted, Refused}
use Rattle.name.specs.Name.{wire}
use Rattle.slots.specs.Entry.{family_of, address_size}
use Rattle.slots.specs.declared.Family.{Family}
use Rattle.slots.specs.declared.Family.TheVariants.{V4, V6}
use Rattle.text.specs.Digits.{decimal, hex_digit}

-- ---- the name

-- RFC 3596, 2.5: of each byte two labels, its halves, each one hexadecimal digit, the low half first
unfoldable pub nibbles : List ℕ → List (List ℕ)
nibbles [] = []
nibbles (b ∷ x) = (hex_digit (b % 16) ∷ []) ∷ (hex_digit (b / 16) ∷ []) ∷ nibbles x

-- the labels of an address x, its last byte first. RFC 1035, 3.5: of each byte one label, its number in decimal with no leading zero, and then in-addr.arpa.
-- RFC 3596, 2.5: the nibbles, and then ip6.arpa
unfoldable pub ptr_labels : Family → List ℕ → List (List ℕ)
ptr_labels V4 x = map (decimal 3) (reverse x) ++ ascii "in-addr" ∷ ascii "arpa" ∷ []
ptr_labels V6 x = nibbles (reverse x) ++ ascii "ip6" ∷ ascii "arpa" ∷ []

-- document 02, K7 (docs/RULES.md, 12.1): the name in wire form
unfoldable pub ptr_name : Family → List ℕ → List ℕ
ptr_name f x = wire (ptr_labels f x)

-- ---- the call

-- document 02, K7 (docs/RULES.md, 12.1), what is tested: the family, 12; the length of its address, 16; the room for the name, 13
abbrev pub ptr_tests : ℕ → List ℕ → List ℕ → List Test
ptr_tests family x out =
    record { number = unknown_setting; holds = KnownFamily family }
    ∷ record { number = address_length; holds = length x ≡ address_size (family_of family) }
    ∷ record { number = output_short; holds = length (ptr_name (family_of family) x) ≤ length out }
    ∷ []

-- the name of the address x was written into an output that held `out` and now holds `left`; r was answered
pub data PtrWritten (family : ℕ) (x out : List ℕ) (r : Answer) (left : List ℕ) : Type 0 where
  faulty : {n : ℕ} → FirstFault (ptr_tests family x out) n → r ≡ Refused n 0 → left ≡ out → PtrWritten family x out r left
  written : AllHold (ptr_tests family x out) → r ≡ Accepted (length (ptr_name (family_of family) x)) → left ≡ overlay out 0 (ptr_name (family_of family) x)
      → PtrWritten family x out r left
