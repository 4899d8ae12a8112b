-- The name of an address, from its last byte on: the labels of each byte, and then the name of the bytes before it. Assumes nothing.
use Prim.Native.Nat.{ℕ, ◌+◌, ◌-◌, ◌*◌, ◌/◌, ◌%◌, ◌≤◌, ◌<◌}
use mathlib.Core.Path.{◌≡◌, refl, sym, ap, ◌∙◌}
use mathlib.Core.List.{List, [], ◌∷◌, ◌++◌, map, reverse, append_assoc, append-nil, reverse-cons, reverse-append}
use native.Mathlib.Omega.{arith}
use native.Mathlib.Numerals.{add-one}
use lib.ListN.{length, get_or, take, replicate, length-append, length-reverse}
use lib.Seq.{take-suc}
use Rattle.base.specs.Bytes.{ascii}
use Rattle.base.proofs.Lists.{map_append}
use Rattle.name.specs.Name.{wire}
use Rattle.slots.specs.declared.Family.{Family}
use Rattle.slots.specs.declared.Family.TheVariants.{V4, V6}
use Rattle.text.specs.Digits.{decimal, hex_digit}
use Rattle.text.proofs.DigitLaws.{length_decimal, digits_first}
use Rattle.ptr.specs.Ptr.{nibbles, ptr_labels, ptr_name}

-- ---- the labels of bytes

unfoldable pub labels_of : Family → List ℕ → List (List ℕ)
labels_of V4 y = map (decimal 3) y
labels_of V6 y = nibbles y

nibbles_append : (y z : List ℕ) → nibbles (y ++ z) ≡ nibbles y ++ nibbles z
unfolding nibbles
nibbles_append [] z = refl
nibbles_append (b ∷ y) z = rw (nibbles_append y z)

labels_append : (f : Family) (y z : List ℕ) → labels_of f (y ++ z) ≡ labels_of f y ++ labels_of f z
unfolding labels_of
labels_append V4 y z = map_append (decimal 3) y z
labels_append V6 y z = nibbles_append y z

-- what follows the labels of an address's bytes is what the name of no bytes has
pub labels_are : (f : Family) (x : List ℕ) → ptr_labels f x ≡ labels_of f (reverse x) ++ ptr_labels f []
unfolding ptr_labels labels_of nibbles
labels_are V4 x = refl
labels_are V6 x = refl

-- ---- labels in wire form, without the zero byte that ends a name

unfoldable pub front : List (List ℕ) → List ℕ
front [] = []
front (l ∷ ls) = length l ∷ l ++ front ls

front_append : (ls ms : List (List ℕ)) → front (ls ++ ms) ≡ front ls ++ front ms
unfolding front
front_append [] ms = refl
front_append (l ∷ ls) ms = ap (λ (r : List ℕ). length l ∷ l ++ r) (front_append ls ms) ∙ ap (λ (r : List ℕ). length l ∷ r) (sym (append_assoc l (front ls) (front ms)))

wire_append : (ls ms : List (List ℕ)) → wire (ls ++ ms) ≡ front ls ++ wire ms
unfolding wire front
wire_append [] ms = refl
wire_append (l ∷ ls) ms = ap (λ (r : List ℕ). length l ∷ l ++ r) (wire_append ls ms) ∙ ap (λ (r : List ℕ). length l ∷ r) (sym (append_assoc l (front ls) (wire ms)))

-- ---- the name, from its last bytes on

-- what stands in a name for the last bytes of an address
unfoldable pub lasts : Family → List ℕ → List ℕ
lasts f y = front (labels_of f (reverse y))

pub name_on : (f : Family) (a b : List ℕ) → ptr_name f (a ++ b) ≡ lasts f b ++ ptr_name f a
unfolding ptr_name lasts
name_on f a b =
    let labels : ptr_labels f (a ++ b) ≡ labels_of f (reverse b) ++ ptr_labels f a =
    labels_are f (a ++ b) ∙ ap (λ (r : List ℕ). labels_of f r ++ ptr_labels f []) (reverse-append a b)
    ∙ ap (λ (l : List (List ℕ)). l ++ ptr_labels f []) (labels_append f (reverse b) (reverse a))
    ∙ append_assoc (labels_of f (reverse b)) (labels_of f (reverse a)) (ptr_labels f [])
    ∙ ap (λ (l : List (List ℕ)). labels_of f (reverse b) ++ l) (sym (labels_are f a)) in
    ap wire labels ∙ wire_append (labels_of f (reverse b)) (ptr_labels f a)

-- one byte more, before those
pub lasts_more : (f : Family) (b : ℕ) (y : List ℕ) → lasts f (b ∷ y) ≡ lasts f y ++ lasts f (b ∷ [])
unfolding lasts
lasts_more f b y =
    ap (λ (r : List ℕ). front (labels_of f r)) (reverse-cons b y) ∙ ap front (labels_append f (reverse y) (b ∷ []))
    ∙ front_append (labels_of f (reverse y)) (labels_of f (b ∷ []))

pub lasts_none : (f : Family) → lasts f [] ≡ []
unfolding lasts labels_of nibbles front
lasts_none V4 = refl
lasts_none V6 = refl

pub lasts_octet : (b : ℕ) → lasts V4 (b ∷ []) ≡ length (decimal 3 b) ∷ decimal 3 b
unfolding lasts labels_of front
lasts_octet b = ap (λ (l : List ℕ). length (decimal 3 b) ∷ l) (append-nil (decimal 3 b))

-- that label, as it is written from what `decimal` answers
pub octet_label : (b len : ℕ) (ds : List ℕ) → (ds ≡ decimal 3 b ++ replicate (3 - len) 0) × (len ≡ length (decimal 3 b))
    → (length (take len ds) ∷ take len ds ≡ lasts V4 (b ∷ [])) × (length (take len ds) ≡ len)
octet_label b len ds h =
    let first : take len ds ≡ decimal 3 b = digits_first 3 b len ds _ h in
    (ap (λ (q : List ℕ). length q ∷ q) first ∙ sym (lasts_octet b), ap length first ∙ sym h.1)

pub lasts_nibbles : (b : ℕ) → lasts V6 (b ∷ []) ≡ 1 ∷ hex_digit (b % 16) ∷ 1 ∷ hex_digit (b / 16) ∷ []
unfolding lasts labels_of nibbles front
lasts_nibbles b = refl

-- ---- how long it is

pub length_suffix_4 : length (ptr_name V4 []) ≡ 14
unfolding ptr_name ptr_labels wire ascii
length_suffix_4 = refl

-- one byte more of an IPv4 address is one label more
pub octet_more : (x : List ℕ) (i : ℕ) → i < length x → length (ptr_name V4 (take (i + 1) x)) ≡ length (ptr_name V4 (take i x)) + (1 + length (decimal 3 (get_or x i 0)))
octet_more x i lt =
    let b = get_or x i 0 in
    let next : take (i + 1) x ≡ take i x ++ (b ∷ []) = rw (add-one, take-suc x i 0) in
    omega (arith, ap length (ap (ptr_name V4) next ∙ name_on V4 (take i x) (b ∷ [])), length-append (lasts V4 (b ∷ [])) (ptr_name V4 (take i x)), ap length (lasts_octet b))

length_suffix_6 : length (ptr_name V6 []) ≡ 10
unfolding ptr_name ptr_labels nibbles wire ascii
length_suffix_6 = refl

pub length_name : (f : Family) (x : List ℕ) → length (ptr_name f x) ≡ length (lasts f x) + length (ptr_name f [])
length_name f x = ap length (name_on f [] x) ∙ length-append (lasts f x) (ptr_name f [])

length_nibbles : (y : List ℕ) → length (front (nibbles y)) ≡ 4 * length y
unfolding front nibbles
length_nibbles [] = refl
length_nibbles (b ∷ y) = omega (arith, length_nibbles y)

pub length_6 : (x : List ℕ) → length x ≡ 16 → length (ptr_name V6 x) ≡ 74
unfolding lasts labels_of
length_6 x size = omega (arith, length_name V6 x, length_suffix_6, length_nibbles (reverse x), length-reverse x)

length_octets : (y : List ℕ) → length (front (map (decimal 3) y)) ≤ 4 * length y
unfolding front
length_octets [] = omega arith
length_octets (b ∷ y) = omega (arith, length_octets y, length_decimal 3 b, length-append (decimal 3 b) (front (map (decimal 3) y)))

pub most_4 : (x : List ℕ) → length x ≡ 4 → length (ptr_name V4 x) ≤ 30
unfolding lasts labels_of
most_4 x size = omega (arith, length_name V4 x, length_suffix_4, length_octets (reverse x), length-reverse x)
