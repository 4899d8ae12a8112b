-- What the name of an address is: a proper name, in canonical form, and no other address's. Assumes nothing.
use Prim.Native.Nat.{ℕ, ◌*◌, ◌/◌, ◌%◌, ◌≤◌, ◌<◌}
use mathlib.Core.Bool.{Bool, true, ◌&&◌}
use mathlib.Core.Path.{◌≡◌, refl, sym, ap, ap₂, subst, ◌∙◌}
use mathlib.Core.List.{List, [], ◌∷◌, ◌++◌, map, reverse, nil≢cons, cons≢nil, head-eq_of_cons-eq, tail-eq_of_cons-eq, append_cancel_right, reverse-cons, reverse-reverse}
use native.Mathlib.Omega.{arith}
use lib.Dec.{leb, eqb}
use lib.ListN.{length, length-append, length-reverse}
use borrow.Author.Tests.{leb-true, eqb-true}
use Rattle.base.specs.Bytes.{ascii}
use Rattle.base.specs.Logic.{Every}
use Rattle.base.proofs.Lists.{every_append, every_by}
use Rattle.base.proofs.Tests.{and_left, and_right, below, at_each}
use Rattle.name.specs.Label.{Label, is_upper, is_lower, is_digit, is_label_byte, lower}
use Rattle.name.specs.Name.{wire, Proper, canonical}
use Rattle.name.proofs.NameLaws.{lowered, canonical_wire, wire_split}
use Rattle.slots.specs.Entry.{address_size}
use Rattle.slots.specs.declared.Family.{Family}
use Rattle.slots.specs.declared.Family.TheVariants.{V4, V6}
use Rattle.text.specs.Digits.{digit_value, value, decimal, hex_digit}
use Rattle.text.proofs.DigitLaws.{decimal_number, hex_digit_value}
use Rattle.ptr.specs.Ptr.{nibbles, ptr_labels, ptr_name}
use Rattle.ptr.proofs.LabelLaws.{labels_of, labels_are, front, lasts, length_name, length_suffix_4, length_6, most_4}

-- ---- a label in lower case, by a test that computes

unfoldable plain : List ℕ → Bool
plain [] = true
plain (b ∷ l) = is_label_byte b && eqb (lower b) b && plain l

unfoldable is_plain : List ℕ → Bool
is_plain l = leb 1 (length l) && leb (length l) 63 && plain l

plain_bytes : (l : List ℕ) → plain l ≡ true → Every (λ b. is_label_byte b ≡ true) l × (map lower l ≡ l)
unfolding plain
plain_bytes [] e = (Every.none, refl)
plain_bytes (b ∷ l) e =
    let first = and_left (is_label_byte b && eqb (lower b) b) (plain l) e in
    let rest = plain_bytes l (and_right (is_label_byte b && eqb (lower b) b) (plain l) e) in (
      Every.more (and_left (is_label_byte b) (eqb (lower b) b) first) rest.0,
      ap₂ ◌∷◌ (eqb-true (lower b) b (and_right (is_label_byte b) (eqb (lower b) b) first)) rest.1,
    )

abbrev Plain : List ℕ → Type 0
Plain l = is_plain l ≡ true

plain_label : (l : List ℕ) → Plain l → Label l × (map lower l ≡ l)
unfolding is_plain
plain_label l e =
    let sizes = and_left (leb 1 (length l) && leb (length l) 63) (plain l) e in
    let bytes = plain_bytes l (and_right (leb 1 (length l) && leb (length l) 63) (plain l) e) in (
      record {
        some = leb-true 1 (length l) (and_left (leb 1 (length l)) (leb (length l) 63) sizes);
        short = leb-true (length l) 63 (and_right (leb 1 (length l)) (leb (length l) 63) sizes);
        bytes = bytes.0;
      },
      bytes.1,
    )

plain_lowered : (ls : List (List ℕ)) → Every Plain ls → lowered ls ≡ ls
plain_lowered [] h = refl
plain_lowered (l ∷ ls) (Every.more p h) = ap₂ ◌∷◌ (plain_label l p).1 (plain_lowered ls h)

-- ---- the labels of an address

octets_below : below (λ b. is_plain (decimal 3 b)) 256 ≡ true
unfolding below is_plain plain is_label_byte is_upper is_lower is_digit lower decimal
octets_below = refl

plain_octet : (b : ℕ) → b < 256 → Plain (decimal 3 b)
plain_octet b small = at_each (λ k. is_plain (decimal 3 k)) 256 octets_below b small

nibbles_below : below (λ v. is_plain (hex_digit v ∷ [])) 16 ≡ true
unfolding below is_plain plain is_label_byte is_upper is_lower is_digit lower hex_digit
nibbles_below = refl

plain_nibble : (v : ℕ) → v < 16 → Plain (hex_digit v ∷ [])
plain_nibble v small = at_each (λ k. is_plain (hex_digit k ∷ [])) 16 nibbles_below v small

abbrev Bytes : List ℕ → Type 0
Bytes x = Every (λ b. b < 256) x

plain_labels : (f : Family) (y : List ℕ) → Bytes y → Every Plain (labels_of f y)
unfolding labels_of nibbles
plain_labels V4 [] h = Every.none
plain_labels V4 (b ∷ y) (Every.more p h) = Every.more (plain_octet b p) (plain_labels V4 y h)
plain_labels V6 [] h = Every.none
plain_labels V6 (b ∷ y) (Every.more p h) = Every.more (plain_nibble (b % 16) (omega arith)) (Every.more (plain_nibble (b / 16) (omega arith)) (plain_labels V6 y h))

plain_suffix : (f : Family) → Every Plain (ptr_labels f [])
unfolding ptr_labels nibbles ascii is_plain plain is_label_byte is_upper is_lower is_digit lower
plain_suffix V4 = Every.more refl (Every.more refl Every.none)
plain_suffix V6 = Every.more refl (Every.more refl Every.none)

every_reverse : {P : ℕ → Type 0} (x : List ℕ) → Every P x → Every P (reverse x)
every_reverse [] h = h
every_reverse {P} (b ∷ x) (Every.more p h) = subst (Every P) (sym (reverse-cons b x)) (every_append (reverse x) (b ∷ []) (every_reverse x h) (Every.more p Every.none))

all_plain : (f : Family) (x : List ℕ) → Bytes x → Every Plain (ptr_labels f x)
all_plain f x h = subst (Every Plain) (sym (labels_are f x)) (every_append (labels_of f (reverse x)) (ptr_labels f []) (plain_labels f (reverse x) (every_reverse x h)) (plain_suffix f))

all_labels : (f : Family) (x : List ℕ) → Bytes x → Every Label (ptr_labels f x)
all_labels f x h = every_by (λ l p. (plain_label l p).0) (all_plain f x h)

-- ---- proper and canonical

pub short : (f : Family) (x : List ℕ) → length x ≡ address_size f → length (ptr_name f x) ≤ 74
short V4 x size = omega (arith, most_4 x size)
short V6 x size = omega (arith, length_6 x size)

suffix_some : (f : Family) → 1 ≤ length (ptr_labels f [])
unfolding ptr_labels nibbles
suffix_some V4 = omega arith
suffix_some V6 = omega arith

pub proper : (f : Family) (x : List ℕ) → length x ≡ address_size f → Bytes x → Proper (ptr_name f x)
unfolding ptr_name
proper f x size h =
    record {
      labels = ptr_labels f x;
      name =
          record {
            some = omega (arith, ap length (labels_are f x), length-append (labels_of f (reverse x)) (ptr_labels f []), suffix_some f);
            labels = all_labels f x h;
            short = omega (arith, short f x size);
          };
      form = refl;
    }

pub in_canonical_form : (f : Family) (x : List ℕ) → Bytes x → canonical (ptr_name f x) ≡ ptr_name f x
unfolding ptr_name
in_canonical_form f x h = canonical_wire (ptr_labels f x) (all_labels f x h) ∙ ap wire (plain_lowered (ptr_labels f x) (all_plain f x h))

-- ---- the length of a name in in-addr.arpa

least_octets : (y : List ℕ) → Bytes y → 2 * length y ≤ length (front (map (decimal 3) y))
unfolding front
least_octets [] h = omega arith
least_octets (b ∷ y) (Every.more p h) =
    omega (arith, least_octets y h, (plain_label (decimal 3 b) (plain_octet b p)).0.some, length-append (decimal 3 b) (front (map (decimal 3) y)))

pub least_4 : (x : List ℕ) → length x ≡ 4 → Bytes x → 22 ≤ length (ptr_name V4 x)
unfolding lasts labels_of
least_4 x size h = omega (arith, length_name V4 x, length_suffix_4, least_octets (reverse x) (every_reverse x h), length-reverse x)

-- ---- no two addresses have one name

same_octet : (a b : ℕ) → a < 256 → b < 256 → decimal 3 a ≡ decimal 3 b → a ≡ b
same_octet a b la lb e = sym (decimal_number 2 a (omega arith)).number ∙ ap (value 10 0) e ∙ (decimal_number 2 b (omega arith)).number

same_nibble : (v w : ℕ) → v < 16 → w < 16 → hex_digit v ∷ [] ≡ hex_digit w ∷ [] → v ≡ w
same_nibble v w lv lw e = sym (hex_digit_value v lv) ∙ ap digit_value (head-eq_of_cons-eq e) ∙ hex_digit_value w lw

same_bytes : (f : Family) (y z : List ℕ) → Bytes y → Bytes z → labels_of f y ≡ labels_of f z → y ≡ z
unfolding labels_of nibbles
same_bytes V4 [] [] h k e = refl
same_bytes V4 [] (b ∷ z) h k e = absurd (nil≢cons e)
same_bytes V4 (a ∷ y) [] h k e = absurd (cons≢nil e)
same_bytes V4 (a ∷ y) (b ∷ z) (Every.more p h) (Every.more q k) e =
    ap₂ ◌∷◌ (same_octet a b p q (head-eq_of_cons-eq e)) (same_bytes V4 y z h k (tail-eq_of_cons-eq e))
same_bytes V6 [] [] h k e = refl
same_bytes V6 [] (b ∷ z) h k e = absurd (nil≢cons e)
same_bytes V6 (a ∷ y) [] h k e = absurd (cons≢nil e)
same_bytes V6 (a ∷ y) (b ∷ z) (Every.more p h) (Every.more q k) e =
    let low : a % 16 ≡ b % 16 = same_nibble (a % 16) (b % 16) (omega arith) (omega arith) (head-eq_of_cons-eq e) in
    let high : a / 16 ≡ b / 16 = same_nibble (a / 16) (b / 16) (omega arith) (omega arith) (head-eq_of_cons-eq (tail-eq_of_cons-eq e)) in
    let same : a ≡ b = omega arith in
    ap₂ ◌∷◌ same (same_bytes V6 y z h k (tail-eq_of_cons-eq (tail-eq_of_cons-eq e)))

same_labels : (f g : Family) (x y : List ℕ) → ptr_name f x ≡ ptr_name g y → ptr_labels f x ≡ ptr_labels g y
unfolding ptr_name
same_labels f g x y e = wire_split (ptr_labels f x) (ptr_labels g y) e

one_family : (f : Family) (x y : List ℕ) → Bytes x → Bytes y → ptr_name f x ≡ ptr_name f y → x ≡ y
one_family f x y h k e =
    let labels : labels_of f (reverse x) ++ ptr_labels f [] ≡ labels_of f (reverse y) ++ ptr_labels f [] = sym (labels_are f x) ∙ same_labels f f x y e ∙ labels_are f y in
    let bytes : reverse x ≡ reverse y =
    same_bytes f (reverse x) (reverse y) (every_reverse x h) (every_reverse y k) (append_cancel_right (labels_of f (reverse x)) (labels_of f (reverse y)) (ptr_labels f []) labels) in
    sym (reverse-reverse x) ∙ ap reverse bytes ∙ reverse-reverse y

-- a name in ip6.arpa is the longer one
two_families : (x y : List ℕ) → length x ≡ 4 → length y ≡ 16 → ptr_name V4 x ≡ ptr_name V6 y → ⊥
two_families x y four sixteen e = omega (arith, most_4 x four, length_6 y sixteen, ap length e)

pub one_name : (f g : Family) (x y : List ℕ) → length x ≡ address_size f → Bytes x → length y ≡ address_size g → Bytes y → ptr_name f x ≡ ptr_name g y → (f ≡ g) × (x ≡ y)
one_name V4 V4 x y sx h sy k e = (refl, one_family V4 x y h k e)
one_name V4 V6 x y sx h sy k e = absurd (two_families x y sx sy e)
one_name V6 V4 x y sx h sy k e = absurd (two_families y x sy sx (sym e))
one_name V6 V6 x y sx h sy k e = (refl, one_family V6 x y h k e)
