-- Laws of base64: digits and their values, groups, and the shape of 35 bytes' text. Assumes nothing.
use Prim.Native.Nat.{ℕ, suc, ◌+◌, ◌-◌, ◌*◌, ◌/◌, ◌%◌, ◌≤◌, ◌<◌}
use Prim.Native.Char.{code}
use mathlib.Core.Bool.{Bool, true, cond, ◌&&◌}
use mathlib.Core.Path.{◌≡◌, refl, sym, ap, subst, ◌∙◌}
use mathlib.Core.List.{List, [], ◌∷◌, ◌++◌, head-eq_of_cons-eq, tail-eq_of_cons-eq}
use native.Mathlib.Numerals.{add-one}
use native.Mathlib.Omega.{arith}
use lib.Dec.{leb, ltb, eqb}
use lib.ListN.{length, get_or, take, drop, set, take-append-drop, drop_of_length-le}
use lib.Seq.{length-take-le, drop-cons, take-add, sets-eq}
use borrow.Author.Tests.{eqb-true, ne_eqb, lt-ltb}
use Rattle.base.specs.Bytes.{overlay}
use Rattle.base.specs.Logic.{Every}
use Rattle.base.proofs.Bytes.{overlay_append}
use Rattle.base.proofs.Tests.{by_ltb, below, at_each, over}
use Rattle.dhcid_text.specs.Dhcid.{digit64, base64}
use Rattle.dhcid_text.specs.Base64.{value64, group}

-- ---- digits and their values

read_back : ℕ → Bool
read_back v = eqb (value64 (digit64 v)) v

all_read_back : below read_back 64 ≡ true
unfolding below read_back digit64 value64
all_read_back = refl

pub value_digit : (v : ℕ) → v < 64 → value64 (digit64 v) ≡ v
unfolding read_back
value_digit v l = eqb-true (value64 (digit64 v)) v (at_each read_back 64 all_read_back v l)

-- of a byte below 128: it is no digit, or the digit of its value
written_back : ℕ → Bool
written_back c = cond (ltb (value64 c) 64) (eqb (digit64 (value64 c)) c) true

all_written_back : below written_back 128 ≡ true
unfolding below written_back digit64 value64
all_written_back = refl

-- a byte's value, from the five tests
pub value_of : (b : ℕ) {u l d p s : Bool} → (leb (code "A") b && leb b (code "Z")) ≡ u → (leb (code "a") b && leb b (code "z")) ≡ l → (leb (code "0") b && leb b (code "9")) ≡ d
    → eqb b (code "+") ≡ p → eqb b (code "/") ≡ s → value64 b ≡ cond u (b - code "A") (cond l (b - code "a" + 26) (cond d (b - code "0" + 52) (cond p 62 (cond s 63 64))))
unfolding value64
value_of b eu el ed ep es = λ i. cond (eu i) (b - code "A") (cond (el i) (b - code "a" + 26) (cond (ed i) (b - code "0" + 52) (cond (ep i) 62 (cond (es i) 63 64))))

-- a digit, from the four tests
pub digit_of : (v : ℕ) {u l d p : Bool} → ltb v 26 ≡ u → ltb v 52 ≡ l → ltb v 62 ≡ d → eqb v 62 ≡ p
    → digit64 v ≡ cond u (code "A" + v) (cond l (code "a" + (v - 26)) (cond d (code "0" + (v - 52)) (cond p (code "+") (code "/"))))
unfolding digit64
digit_of v eu el ed ep = λ i. cond (eu i) (code "A" + v) (cond (el i) (code "a" + (v - 26)) (cond (ed i) (code "0" + (v - 52)) (cond (ep i) (code "+") (code "/"))))

no_value : (c : ℕ) → 128 ≤ c → value64 c ≡ 64
no_value c h =
    value_of c (over 65 c 90 (omega arith)) (over 97 c 122 (omega arith)) (over 48 c 57 (omega arith)) (ne_eqb c 43 (λ e. omega arith)) (ne_eqb c 47 (λ e. omega arith))

pub digit_value_lem : (c : ℕ) → value64 c < 64 → digit64 (value64 c) ≡ c
unfolding written_back
digit_value_lem c h =
    by_ltb c 128
    (λ l. eqb-true (digit64 (value64 c)) c (sym (ap (λ (t : Bool). cond t (eqb (digit64 (value64 c)) c) true) (lt-ltb (value64 c) 64 h)) ∙ at_each written_back 128 all_written_back c l))
    (λ l. absurd (omega (arith, no_value c l)))

pub same_digit : (v w : ℕ) → v < 64 → w < 64 → digit64 v ≡ digit64 w → v ≡ w
same_digit v w hv hw e = sym (value_digit v hv) ∙ ap value64 e ∙ value_digit w hw

-- ---- groups

-- the base64 of whole groups, and what follows
pub base64_on : (o t : List ℕ) (k : ℕ) → length o ≡ 3 * k → base64 (o ++ t) ≡ base64 o ++ base64 t
unfolding base64
base64_on [] t k e = refl
base64_on (a ∷ []) t k e = absurd (omega arith)
base64_on (a ∷ b ∷ []) t k e = absurd (omega arith)
base64_on (a ∷ b ∷ c ∷ o) t k e =
    ap (λ (l : List ℕ). digit64 (a / 4) ∷ digit64 (a % 4 * 16 + b / 16) ∷ digit64 (b % 16 * 4 + c / 64) ∷ digit64 (c % 64) ∷ l)
    (base64_on o t (k - 1) (omega arith))

pub length_whole : (o : List ℕ) (k : ℕ) → length o ≡ 3 * k → length (base64 o) ≡ 4 * k
unfolding base64
length_whole [] k e = omega arith
length_whole (a ∷ []) k e = absurd (omega arith)
length_whole (a ∷ b ∷ []) k e = absurd (omega arith)
length_whole (a ∷ b ∷ c ∷ o) k e = omega (arith, length_whole o (k - 1) (omega arith))

-- and two bytes more
length_and_two : (bs : List ℕ) (k : ℕ) → length bs ≡ 3 * k + 2 → length (base64 bs) ≡ 4 * k + 4
unfolding base64
length_and_two [] k e = absurd (omega arith)
length_and_two (a ∷ []) k e = absurd (omega arith)
length_and_two (a ∷ b ∷ []) k e = omega arith
length_and_two (a ∷ b ∷ c ∷ bs) k e = omega (arith, length_and_two bs (k - 1) (omega arith))

-- a DHCID is 48 characters
pub length_base64 : (bs : List ℕ) → length bs ≡ 35 → length (base64 bs) ≡ 48
length_base64 bs long = length_and_two bs 11 long

-- ---- k groups and two bytes: digits, of which the last has two bits zero, and =

pub record Shape (k : ℕ) (t : List ℕ) : Type 0 where
  pub front : List ℕ
  pub bits : ℕ
  pub long : length front ≡ 4 * k + 2
  pub digits : Every (λ c. value64 c < 64) front
  pub form : t ≡ front ++ digit64 (bits % 16 * 4) ∷ 61 ∷ []

is_digit_lem : (v : ℕ) → v < 64 → value64 (digit64 v) < 64
is_digit_lem v h = omega (arith, value_digit v h)

shape_more : (k a b c : ℕ) (t : List ℕ) → a < 256 → b < 256 → c < 256 → Shape k t
    → Shape (k + 1) (digit64 (a / 4) ∷ digit64 (a % 4 * 16 + b / 16) ∷ digit64 (b % 16 * 4 + c / 64) ∷ digit64 (c % 64) ∷ t)
shape_more k a b c t ha hb hc h =
    record {
      front = digit64 (a / 4) ∷ digit64 (a % 4 * 16 + b / 16) ∷ digit64 (b % 16 * 4 + c / 64) ∷ digit64 (c % 64) ∷ h.front;
      bits = h.bits;
      long = omega (arith, h.long);
      digits =
          Every.more (is_digit_lem (a / 4) (omega arith))
          (Every.more (is_digit_lem (a % 4 * 16 + b / 16) (omega arith))
          (Every.more (is_digit_lem (b % 16 * 4 + c / 64) (omega arith)) (Every.more (is_digit_lem (c % 64) (omega arith)) h.digits)));
      form = ap (λ (l : List ℕ). digit64 (a / 4) ∷ digit64 (a % 4 * 16 + b / 16) ∷ digit64 (b % 16 * 4 + c / 64) ∷ digit64 (c % 64) ∷ l) h.form;
    }

pub shape : (bs : List ℕ) (k : ℕ) → Every (λ b. b < 256) bs → length bs ≡ 3 * k + 2 → Shape k (base64 bs)
unfolding base64
shape [] k h e = absurd (omega arith)
shape (a ∷ []) k h e = absurd (omega arith)
shape (a ∷ b ∷ []) k (Every.more ha (Every.more hb h)) e =
    record {
      front = digit64 (a / 4) ∷ digit64 (a % 4 * 16 + b / 16) ∷ [];
      bits = b;
      long = omega arith;
      digits = Every.more (is_digit_lem (a / 4) (omega arith)) (Every.more (is_digit_lem (a % 4 * 16 + b / 16) (omega arith)) Every.none);
      form = refl;
    }
shape (a ∷ b ∷ c ∷ bs) k (Every.more ha (Every.more hb (Every.more hc h))) e =
    let one : k - 1 + 1 ≡ k = omega arith in
    subst (λ (j : ℕ). Shape j (base64 (a ∷ b ∷ c ∷ bs))) one (shape_more (k - 1) a b c (base64 bs) ha hb hc (shape bs (k - 1) h (omega arith)))

-- ---- what base64 tells of the bytes

same_low : (x x' y y' : ℕ) → y < 16 → y' < 16 → x * 16 + y ≡ x' * 16 + y' → y ≡ y'
same_low x x' y y' h h' e = by_ltb x x' (λ l. absurd (omega arith)) (λ g. by_ltb x' x (λ l. absurd (omega arith)) (λ l. omega arith))

module _ (a b a' b' : ℕ) (ha : a < 256) (hb : b < 256) (ha' : a' < 256) (hb' : b' < 256) where
  first_byte : digit64 (a / 4) ≡ digit64 (a' / 4) → digit64 (a % 4 * 16 + b / 16) ≡ digit64 (a' % 4 * 16 + b' / 16) → a ≡ a'
  first_byte e₁ e₂ = omega (arith, same_digit (a / 4) (a' / 4) (omega arith) (omega arith) e₁, same_digit (a % 4 * 16 + b / 16) (a' % 4 * 16 + b' / 16) (omega arith) (omega arith) e₂)

  last_byte : digit64 (a % 4 * 16 + b / 16) ≡ digit64 (a' % 4 * 16 + b' / 16) → digit64 (b % 16 * 4) ≡ digit64 (b' % 16 * 4) → b ≡ b'
  last_byte e₂ e₃ =
      let s₂ = same_digit (a % 4 * 16 + b / 16) (a' % 4 * 16 + b' / 16) (omega arith) (omega arith) e₂ in
      let s₃ = same_digit (b % 16 * 4) (b' % 16 * 4) (omega arith) (omega arith) e₃ in
      let high : b / 16 ≡ b' / 16 = same_low (a % 4) (a' % 4) (b / 16) (b' / 16) (omega arith) (omega arith) s₂ in
      let low : b % 16 ≡ b' % 16 = omega arith in
      omega arith

  module _ (c c' : ℕ) (hc : c < 256) (hc' : c' < 256) where
    second_byte : digit64 (a % 4 * 16 + b / 16) ≡ digit64 (a' % 4 * 16 + b' / 16) → digit64 (b % 16 * 4 + c / 64) ≡ digit64 (b' % 16 * 4 + c' / 64) → b ≡ b'
    second_byte e₂ e₃ =
        omega (
          arith,
          same_digit (a % 4 * 16 + b / 16) (a' % 4 * 16 + b' / 16) (omega arith) (omega arith) e₂,
          same_digit (b % 16 * 4 + c / 64) (b' % 16 * 4 + c' / 64) (omega arith) (omega arith) e₃,
        )

    third_byte : digit64 (b % 16 * 4 + c / 64) ≡ digit64 (b' % 16 * 4 + c' / 64) → digit64 (c % 64) ≡ digit64 (c' % 64) → c ≡ c'
    third_byte e₃ e₄ =
        omega (
          arith,
          same_digit (b % 16 * 4 + c / 64) (b' % 16 * 4 + c' / 64) (omega arith) (omega arith) e₃,
          same_digit (c % 64) (c' % 64) (omega arith) (omega arith) e₄,
        )

next : {x y : ℕ} {l m : List ℕ} → x ∷ l ≡ y ∷ m → l ≡ m
next e = tail-eq_of_cons-eq e

-- bytes with the same base64 are the same
pub same_bytes : (o p : List ℕ) (k : ℕ) → Every (λ b. b < 256) o → Every (λ b. b < 256) p → length o ≡ 3 * k + 2 → length p ≡ 3 * k + 2
    → base64 o ≡ base64 p → o ≡ p
unfolding base64
same_bytes [] p k ho hp eo ep e = absurd (omega arith)
same_bytes (a ∷ []) p k ho hp eo ep e = absurd (omega arith)
same_bytes (a ∷ b ∷ []) [] k ho hp eo ep e = absurd (omega arith)
same_bytes (a ∷ b ∷ []) (a' ∷ []) k ho hp eo ep e = absurd (omega arith)
same_bytes (a ∷ b ∷ []) (a' ∷ b' ∷ []) k (Every.more ha (Every.more hb ho)) (Every.more ha' (Every.more hb' hp)) eo ep e =
    let e₁ = head-eq_of_cons-eq e in
    let e₂ = head-eq_of_cons-eq (next e) in
    let e₃ = head-eq_of_cons-eq (next (next e)) in
    λ i. first_byte a b a' b' ha hb ha' hb' e₁ e₂ i ∷ last_byte a b a' b' ha hb ha' hb' e₂ e₃ i ∷ []
same_bytes (a ∷ b ∷ []) (a' ∷ b' ∷ c' ∷ p) k ho hp eo ep e = absurd (omega arith)
same_bytes (a ∷ b ∷ c ∷ o) [] k ho hp eo ep e = absurd (omega arith)
same_bytes (a ∷ b ∷ c ∷ o) (a' ∷ []) k ho hp eo ep e = absurd (omega arith)
same_bytes (a ∷ b ∷ c ∷ o) (a' ∷ b' ∷ []) k ho hp eo ep e = absurd (omega arith)
same_bytes (a ∷ b ∷ c ∷ o) (a' ∷ b' ∷ c' ∷ p) k (Every.more ha (Every.more hb (Every.more hc ho))) (Every.more ha' (Every.more hb' (Every.more hc' hp))) eo ep e =
    let e₁ = head-eq_of_cons-eq e in
    let e₂ = head-eq_of_cons-eq (next e) in
    let e₃ = head-eq_of_cons-eq (next (next e)) in
    let e₄ = head-eq_of_cons-eq (next (next (next e))) in
    let rest = same_bytes o p (k - 1) ho hp (omega arith) (omega arith) (next (next (next (next e)))) in
    λ i.
    first_byte a b a' b' ha hb ha' hb' e₁ e₂ i
    ∷ second_byte a b a' b' ha hb ha' hb' c c' hc hc' e₂ e₃ i
    ∷ third_byte a b a' b' ha hb ha' hb' c c' hc hc' e₃ e₄ i
    ∷ rest i

-- ---- the loop that writes it

pub four_stored : (to : List ℕ) (at x y z v : ℕ) → at + 4 ≤ length to
    → set (set (set (set to at x) (at + 1) y) (at + 2) z) (at + 3) v ≡ overlay to at (x ∷ y ∷ z ∷ v ∷ [])
unfolding overlay
four_stored to at x y z v fits =
    let one : at + 1 ≡ suc at = omega arith in
    let two : at + 2 ≡ suc (suc at) = omega arith in
    let three : at + 3 ≡ suc (suc (suc at)) = omega arith in
    (λ i. set (set (set (set to at x) (one i) y) (two i) z) (three i) v) ∙ sets-eq (x ∷ y ∷ z ∷ v ∷ []) to at fits

module _ (d : List ℕ) (k : ℕ) (lt : 3 * k + 2 < length d) where
  three_more : take (3 * (k + 1)) d ≡ take (3 * k) d ++ get_or d (3 * k) 0 ∷ get_or d (3 * k + 1) 0 ∷ get_or d (3 * k + 2) 0 ∷ []
  three_more =
      let next : 3 * (k + 1) ≡ 3 * k + 3 = omega arith in
      let two : suc (suc (3 * k)) ≡ 3 * k + 2 = omega arith in
      let three : drop (3 * k) d ≡ get_or d (3 * k) 0 ∷ get_or d (3 * k + 1) 0 ∷ get_or d (3 * k + 2) 0 ∷ drop (suc (3 * k + 2)) d =
      drop-cons d (3 * k) 0 (omega arith)
      ∙ ap (λ (l : List ℕ). get_or d (3 * k) 0 ∷ l)
      (ap (λ (j : ℕ). drop j d) (sym (add-one (3 * k))) ∙ drop-cons d (3 * k + 1) 0 (omega arith)
      ∙ ap (λ (l : List ℕ). get_or d (3 * k + 1) 0 ∷ l) (ap (λ (j : ℕ). drop (suc j) d) (add-one (3 * k)) ∙ ap (λ (j : ℕ). drop j d) two ∙ drop-cons d (3 * k + 2) 0 lt)) in
      ap (λ (j : ℕ). take j d) next ∙ take-add (3 * k) 3 d ∙ ap (λ (l : List ℕ). take (3 * k) d ++ take 3 l) three

  length_groups : length (base64 (take (3 * k) d)) ≡ 4 * k
  length_groups = length_whole (take (3 * k) d) k (length-take-le (3 * k) d (omega arith))

  -- r is t, which holds k groups, with one group more
  pub group_written : (to t r : List ℕ) (at fourth : ℕ) → at + 4 * k ≤ length to → t ≡ overlay to at (base64 (take (3 * k) d)) → fourth ≡ digit64 (get_or d (3 * k + 2) 0 % 64)
      → r ≡ overlay t (at + 4 * k) (group (get_or d (3 * k) 0) (get_or d (3 * k + 1) 0) (get_or d (3 * k + 2) 0) fourth)
      → r ≡ overlay to at (base64 (take (3 * (k + 1)) d))
  unfolding base64 group
  group_written to t r at fourth fits et ef er =
      let three : List ℕ = get_or d (3 * k) 0 ∷ get_or d (3 * k + 1) 0 ∷ get_or d (3 * k + 2) 0 ∷ [] in
      er
      ∙ (λ i. overlay (et i) (at + sym length_groups i) (group (get_or d (3 * k) 0) (get_or d (3 * k + 1) 0) (get_or d (3 * k + 2) 0) (ef i)))
      ∙ overlay_append to at (base64 (take (3 * k) d)) (base64 three) (omega (arith, length_groups))
      ∙ ap (overlay to at) (sym (base64_on (take (3 * k) d) three k (length-take-le (3 * k) d (omega arith))) ∙ ap base64 (sym three_more))

-- r is t, which holds eleven groups, with the last group, of two bytes
pub last_written : (d to t r : List ℕ) (at k : ℕ) → length d ≡ 35 → at + 44 ≤ length to → k ≡ 11 → t ≡ overlay to at (base64 (take (3 * k) d))
    → r ≡ overlay t (at + 44) (group (get_or d 33 0) (get_or d 34 0) 0 61)
    → r ≡ overlay to at (base64 d)
unfolding base64 group
last_written d to t r at k long fits ek et er =
    let whole : length (take 33 d) ≡ 3 * 11 = length-take-le 33 d (omega arith) in
    let digits : length (base64 (take 33 d)) ≡ 44 = length_whole (take 33 d) 11 whole in
    let two : List ℕ = get_or d 33 0 ∷ get_or d 34 0 ∷ [] in
    let rest : drop 33 d ≡ two =
    drop-cons d 33 0 (omega arith)
    ∙ ap (λ (l : List ℕ). get_or d 33 0 ∷ l) (drop-cons d 34 0 (omega arith) ∙ ap (λ (l : List ℕ). get_or d 34 0 ∷ l) (drop_of_length-le d {i = 35} (omega arith))) in
    let third : get_or d 34 0 % 16 * 4 + 0 / 64 ≡ get_or d 34 0 % 16 * 4 = omega arith in
    let eleven : t ≡ overlay to at (base64 (take 33 d)) = et ∙ ap (λ (j : ℕ). overlay to at (base64 (take (3 * j) d))) ek in
    er
    ∙ (λ i. overlay (eleven i) (at + sym digits i) (digit64 (get_or d 33 0 / 4) ∷ digit64 (get_or d 33 0 % 4 * 16 + get_or d 34 0 / 16) ∷ digit64 (third i) ∷ 61 ∷ []))
    ∙ overlay_append to at (base64 (take 33 d)) (base64 two) (omega (arith, digits))
    ∙ ap (overlay to at) (sym (base64_on (take 33 d) two 11 whole) ∙ ap (λ (l : List ℕ). base64 (take 33 d ++ l)) (sym rest) ∙ ap base64 (take-append-drop 33 d))
