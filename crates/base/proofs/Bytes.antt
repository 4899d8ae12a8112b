-- Laws of specs/Bytes.antt and of lists of equal bytes. Assumes nothing.
use Prim.Native.Nat.{ℕ, zero, suc, ◌+◌, ◌-◌, ◌*◌, ◌≤◌, ◌<◌}
use mathlib.Core.Path.{◌≡◌, refl, sym, ap, ap₂, ◌∙◌}
use mathlib.Core.List.{List, [], ◌∷◌, ◌++◌, append_assoc, append-nil}
use native.Mathlib.Nat.{le_refl, not-suc-le-zero, zero-add, add-zero, mul-suc}
use native.Mathlib.Numerals.{add-one}
use native.Mathlib.Omega.{arith}
use lib.ListN.{length, get_or, take, drop, set, replicate, length-append, take-append-drop, drop_of_length-le}
use lib.Seq.{take-length, take-suc, drop-drop, append_snoc, set_split, paste, length-paste, take-paste, drop-paste}
use Rattle.base.specs.Bytes.{overlay, big_endian, in_bytes}

-- what a loop that copies leaves after its last turn
pub paste_all : (to : List ℕ) (at : ℕ) (from : List ℕ) → paste to at from (length from) ≡ overlay to at from
unfolding overlay
paste_all to at from = ap (λ (l : List ℕ). take at to ++ l ++ drop (at + length from) to) (take-length from)

pub length_overlay : (to : List ℕ) (at : ℕ) (from : List ℕ) → at + length from ≤ length to → length (overlay to at from) ≡ length to
length_overlay to at from fits = sym (ap length (paste_all to at from)) ∙ length-paste to at from (length from) fits (le_refl (length from))

pub take_overlay : (to : List ℕ) (at : ℕ) (from : List ℕ) → at ≤ length to → take (at + length from) (overlay to at from) ≡ take at to ++ from
take_overlay to at from fits =
    sym (ap (take (at + length from)) (paste_all to at from))
    ∙ take-paste to at from (length from) fits (le_refl (length from))
    ∙ ap (λ (l : List ℕ). take at to ++ l) (take-length from)

pub take_replicate : (n k a : ℕ) → n ≤ k → take n (replicate k a) ≡ replicate n a
take_replicate zero k a h = refl
take_replicate (suc n) zero a h = absurd (not-suc-le-zero h)
take_replicate (suc n) (suc k) a h = ap (◌∷◌ a) (take_replicate n k a (omega arith))

pub overlay_to_end : (to : List ℕ) (at : ℕ) (from : List ℕ) → at + length from ≡ length to → overlay to at from ≡ take at to ++ from
unfolding overlay
overlay_to_end to at from e =
    ap (λ (l : List ℕ). take at to ++ from ++ l) (drop_of_length-le to {i = at + length from} (omega arith)) ∙ append-nil (take at to ++ from)

pub drop_replicate : (n k a : ℕ) → drop n (replicate k a) ≡ replicate (k - n) a
drop_replicate zero k a = let e : k ≡ k - 0 = omega arith in ap (λ (x : ℕ). replicate x a) e
drop_replicate (suc n) zero a = let e : 0 ≡ 0 - suc n = omega arith in ap (λ (x : ℕ). replicate x a) e
drop_replicate (suc n) (suc k) a = let e : k - n ≡ suc k - suc n = omega arith in drop_replicate n k a ∙ ap (λ (x : ℕ). replicate x a) e

-- what is written over zeros, from the first on
pub overlay_zeros : (k : ℕ) (from : List ℕ) → overlay (replicate k 0) 0 from ≡ from ++ replicate (k - length from) 0
unfolding overlay
overlay_zeros k from =
    ap (λ (l : List ℕ). from ++ l) (ap (λ (n : ℕ). drop n (replicate k 0)) (zero-add (length from)) ∙ drop_replicate (length from) k 0)

-- ---- numbers in bytes

pub length_big_endian : (n x : ℕ) → length (big_endian n x) ≡ n
unfolding big_endian
length_big_endian zero x = refl
length_big_endian (suc n) x = ap suc (length_big_endian n x)

in_bytes_append : (n : ℕ) (xs : List ℕ) (x : ℕ) → in_bytes n (xs ++ (x ∷ [])) ≡ in_bytes n xs ++ big_endian n x
unfolding in_bytes
in_bytes_append n [] x = append-nil (big_endian n x)
in_bytes_append n (y ∷ xs) x = ap (λ (l : List ℕ). big_endian n y ++ l) (in_bytes_append n xs x) ∙ sym (append_assoc (big_endian n y) (in_bytes n xs) (big_endian n x))

-- a loop that writes them: d has the first i numbers of h, and gets the bytes b of the next
pub in_bytes_more : (n : ℕ) (h d d' b : List ℕ) (i : ℕ) → d' ≡ overlay d (n * i) b → b ≡ big_endian n (get_or h i 0) → take (n * i) d ≡ in_bytes n (take i h)
    → n * i ≤ length d → i < length h → take (n * (i + 1)) d' ≡ in_bytes n (take (i + 1) h)
in_bytes_more n h d d' b i e eb done fits more =
    let size : n * (i + 1) ≡ n * i + length b = ap (λ (k : ℕ). n * k) (add-one i) ∙ mul-suc n i ∙ ap (λ (k : ℕ). n * i + k) (sym (ap length eb ∙ length_big_endian n (get_or h i 0))) in
    ap₂ take size e ∙ take_overlay d (n * i) b fits ∙ ap₂ ◌++◌ done eb ∙ sym (in_bytes_append n (take i h) (get_or h i 0))
    ∙ ap (in_bytes n) (rw (add-one, take-suc h i 0))

-- ---- writing one thing after the other

pub drop_overlay : (to : List ℕ) (at : ℕ) (from : List ℕ) → at ≤ length to → drop (at + length from) (overlay to at from) ≡ drop (at + length from) to
drop_overlay to at from fits = sym (ap (drop (at + length from)) (paste_all to at from)) ∙ drop-paste to at from (length from) fits (le_refl (length from))

pub overlay_append : (to : List ℕ) (at : ℕ) (a b : List ℕ) → at ≤ length to → overlay (overlay to at a) (at + length a) b ≡ overlay to at (a ++ b)
unfolding overlay
overlay_append to at a b fits =
    let after : at + length a + length b ≡ at + length (a ++ b) = omega (arith, length-append a b) in
    ap₂ (λ (x y : List ℕ). x ++ b ++ y) (take_overlay to at a fits)
    (sym (drop-drop (length b) (at + length a) (overlay to at a)) ∙ ap (drop (length b)) (drop_overlay to at a fits) ∙ drop-drop (length b) (at + length a) to
    ∙ ap (λ (k : ℕ). drop k to) after)
    ∙ ap (λ (x : List ℕ). x ++ drop (at + length (a ++ b)) to) (append_assoc (take at to) a b)

pub overlay_none : (to : List ℕ) (at : ℕ) → overlay to at [] ≡ to
unfolding overlay
overlay_none to at =
    ap₂ ◌++◌ (append-nil (take at to)) (ap (λ (k : ℕ). drop k to) (add-zero at)) ∙ take-append-drop at to

-- one byte stored is one byte written
pub set_overlay : (to : List ℕ) (at x : ℕ) → at < length to → set to at x ≡ overlay to at (x ∷ [])
unfolding overlay
set_overlay to at x within =
    set_split to at x within ∙ sym (append_snoc (take at to) x (drop (suc at) to)) ∙ ap (λ (k : ℕ). take at to ++ (x ∷ []) ++ drop k to) (sym (add-one at))

-- ---- bytes that are written from the beginning of an area on

module _ (area b : List ℕ) where
  pub taken_back : take (length b) (overlay area 0 b) ≡ b
  taken_back = ap (λ (k : ℕ). take k (overlay area 0 b)) (sym (zero-add (length b))) ∙ take_overlay area 0 b (omega arith)

  pub left_behind : drop (length b) (overlay area 0 b) ≡ drop (length b) area
  left_behind =
      ap (λ (k : ℕ). drop k (overlay area 0 b)) (sym (zero-add (length b))) ∙ drop_overlay area 0 b (omega arith) ∙ ap (λ (k : ℕ). drop k area) (zero-add (length b))

-- what was written through a part that was lent, from the beginning on
pub written_front : (n : ℕ) (area e b : List ℕ) → length b ≡ n → e ≡ b → e ++ drop n area ≡ overlay area 0 b
unfolding overlay
written_front n area e b size same = let long : n ≡ 0 + length b = omega (arith, size) in ap₂ (λ (l : List ℕ) (j : ℕ). l ++ drop j area) same long
