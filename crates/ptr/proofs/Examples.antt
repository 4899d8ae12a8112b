-- Names of addresses, as text, and the shortest and the longest of an IPv4 address. Assumes nothing.
use mathlib.Core.Path.{◌≡◌, refl}
use mathlib.Core.List.{[], ◌∷◌}
use lib.ListN.{length}
use Rattle.base.specs.Bytes.{ascii}
use Rattle.name.specs.Name.{wire}
use Rattle.name.specs.Promise.{dotted, text_of}
use Rattle.slots.specs.declared.Family.TheVariants.{V4, V6}
use Rattle.text.specs.Digits.{decimal, hex_digit}
use Rattle.ptr.specs.Ptr.{nibbles, ptr_labels, ptr_name}

-- 192.0.2.31
pub in_addr_row : text_of (ptr_name V4 (192 ∷ 0 ∷ 2 ∷ 31 ∷ [])) ≡ ascii "31.2.0.192.in-addr.arpa."
unfolding text_of dotted ptr_name ptr_labels decimal wire ascii
in_addr_row = refl

-- RFC 3596, 2.5: 4321:0:1:2:3:4:567:89ab
pub ip6_row : text_of (ptr_name V6 (0x43 ∷ 0x21 ∷ 0 ∷ 0 ∷ 0 ∷ 1 ∷ 0 ∷ 2 ∷ 0 ∷ 3 ∷ 0 ∷ 4 ∷ 0x05 ∷ 0x67 ∷ 0x89 ∷ 0xab ∷ []))
    ≡ ascii "b.a.9.8.7.6.5.0.4.0.0.0.3.0.0.0.2.0.0.0.1.0.0.0.0.0.0.0.1.2.3.4.ip6.arpa."
unfolding text_of dotted ptr_name ptr_labels nibbles hex_digit wire ascii
ip6_row = refl

-- both ends of `ptr_length_4` are reached
pub shortest : length (ptr_name V4 (0 ∷ 0 ∷ 0 ∷ 0 ∷ [])) ≡ 22
unfolding ptr_name ptr_labels decimal wire ascii
shortest = refl

pub longest : length (ptr_name V4 (255 ∷ 255 ∷ 255 ∷ 255 ∷ [])) ≡ 30
unfolding ptr_name ptr_labels decimal wire ascii
longest = refl
