-- Laws of specs/Digits.antt. Assumes nothing.
use Prim.Native.Nat.{ℕ, zero, suc, ◌+◌, ◌-◌, ◌*◌, ◌/◌, ◌%◌, ◌^◌, ◌≤◌, ◌<◌}
use mathlib.Core.Bool.{Bool, true, false, cond, ◌&&◌}
use mathlib.Core.Path.{◌≡◌, refl, sym, ap, subst, ◌∙◌}
use mathlib.Core.List.{List, [], ◌∷◌, ◌++◌, append_assoc, append-nil}
use native.Mathlib.Decide.{dec_lt}
use native.Mathlib.Nat.{pow-suc, mul_assoc, mul-le-mul_right, mul-one, pow-succ', lt_of_lt_of_le}
use native.Mathlib.Omega.{arith}
use lib.Dec.{leb}
use lib.ListN.{length, get_or, take, length-append, get_or-append}
use lib.Seq.{take_at}
use borrow.Author.Tests.{leb-true, lt-ltb, le-ltb}
use Rattle.base.specs.Logic.{Every}
use Rattle.base.proofs.Tests.{and_left, within, over}
use Rattle.text.specs.Digits.{digit_value, value, Number, decimal, hex_digit}

-- a digit's value, from the three tests
pub digit_value_lem : (x : ℕ) {d u l : Bool} → (leb 48 x && leb x 57) ≡ d → (leb 65 x && leb x 70) ≡ u → (leb 97 x && leb x 102) ≡ l
    → digit_value x ≡ cond d (x - 48) (cond u (x - 65 + 10) (cond l (x - 97 + 10) 16))
unfolding digit_value
digit_value_lem x ed eu el = λ i. cond (ed i) (x - 48) (cond (eu i) (x - 65 + 10) (cond (el i) (x - 97 + 10) 16))

-- a value below ten has one digit
pub ten_digits : (x : ℕ) → digit_value x < 10 → x ≡ 48 + digit_value x
ten_digits x low = go (leb 48 x && leb x 57) refl (leb 65 x && leb x 70) refl (leb 97 x && leb x 102) refl
  where
    in_range : (low high : ℕ) → (leb low x && leb x high) ≡ true → low ≤ x
    in_range low high h = leb-true low x (and_left (leb low x) (leb x high) h)

    go : (d : Bool) → (leb 48 x && leb x 57) ≡ d → (u : Bool) → (leb 65 x && leb x 70) ≡ u → (l : Bool) → (leb 97 x && leb x 102) ≡ l
        → x ≡ 48 + digit_value x
    go true hd u hu l hl = omega (arith, digit_value_lem x hd hu hl, in_range 48 57 hd)
    go false hd true hu l hl = absurd (omega (arith, digit_value_lem x hd hu hl, in_range 65 70 hu))
    go false hd false hu true hl = absurd (omega (arith, digit_value_lem x hd hu hl, in_range 97 102 hl))
    go false hd false hu false hl = absurd (omega (arith, digit_value_lem x hd hu hl))

pub digit_zero : (x : ℕ) → digit_value x ≡ 0 → x ≡ 48
digit_zero x e = omega (arith, ten_digits x (omega arith))

-- ---- decimal, a digit at a time

pub decimal_single : (k n : ℕ) → n < 10 → decimal (suc k) n ≡ (48 + n) ∷ []
unfolding decimal
decimal_single k n small = ap (λ (t : Bool). cond t ((48 + n) ∷ []) (decimal k (n / 10) ++ (48 + n % 10) ∷ [])) (lt-ltb n 10 small)

pub decimal_more : (k n : ℕ) → 10 ≤ n → decimal (suc k) n ≡ decimal k (n / 10) ++ (48 + n % 10) ∷ []
unfolding decimal
decimal_more k n large = ap (λ (t : Bool). cond t ((48 + n) ∷ []) (decimal k (n / 10) ++ (48 + n % 10) ∷ [])) (le-ltb n 10 large)

pub length_decimal : (k n : ℕ) → length (decimal k n) ≤ k
length_decimal zero n = unfold decimal in omega arith
length_decimal (suc k) n = go (dec_lt n 10) (length_decimal k (n / 10))
  where
    go : Dec (n < 10) → length (decimal k (n / 10)) ≤ k → length (decimal (suc k) n) ≤ suc k
    go (yes small) ih = omega (arith, ap length (decimal_single k n small))
    go (no large) ih =
        let ten : 10 ≤ n = omega (arith, large) in
        omega (arith, ap length (decimal_more k n ten), length-append (decimal k (n / 10)) ((48 + n % 10) ∷ []))

-- the digits, from what they begin
pub digits_first : (k n len : ℕ) (ds z : List ℕ) → (ds ≡ decimal k n ++ z) × (len ≡ length (decimal k n)) → take len ds ≡ decimal k n
digits_first k n len ds z h = ap (take len) h.0 ∙ take_at (decimal k n) z len (sym h.1)

-- ---- what is written in digits is a number

digit_of : (d : ℕ) → d < 10 → digit_value (48 + d) ≡ d
digit_of d small = digit_value_lem (48 + d) (within 48 (48 + d) 57 (omega arith) (omega arith)) refl refl ∙ omega arith

pub hex_digit_value : (v : ℕ) → v < 16 → digit_value (hex_digit v) ≡ v
hex_digit_value v small = go (dec_lt v 10)
  where
    go : Dec (v < 10) → digit_value (hex_digit v) ≡ v
    go (yes low) =
        let e : hex_digit v ≡ 48 + v = unfold hex_digit in ap (λ (t : Bool). cond t (48 + v) (97 + (v - 10))) (lt-ltb v 10 low) in
        ap digit_value e ∙ digit_value_lem (48 + v) (within 48 (48 + v) 57 (omega arith) (omega arith)) refl refl ∙ omega arith
    go (no high) =
        let ten : 10 ≤ v = omega (arith, high) in
        let e : hex_digit v ≡ 97 + (v - 10) = unfold hex_digit in ap (λ (t : Bool). cond t (48 + v) (97 + (v - 10))) (le-ltb v 10 ten) in
        ap digit_value e ∙ digit_value_lem (97 + (v - 10)) (over 48 (97 + (v - 10)) 57 (omega arith)) (over 65 (97 + (v - 10)) 70 (omega arith)) (within 97 (97 + (v - 10)) 102 (omega arith) (omega arith))
        ∙ omega arith

value_snoc : (base v : ℕ) (w : List ℕ) (x : ℕ) → value base v (w ++ (x ∷ [])) ≡ value base v w * base + digit_value x
unfolding value
value_snoc base v [] x = refl
value_snoc base v (y ∷ w) x = value_snoc base (v * base + digit_value y) w x

every_snoc : (w : List ℕ) (x : ℕ) → Every (λ y. digit_value y < 10) w → digit_value x < 10 → Every (λ y. digit_value y < 10) (w ++ (x ∷ []))
every_snoc [] x h hx = Every.more hx Every.none
every_snoc (y ∷ w) x (Every.more hy h) hx = Every.more hy (every_snoc w x h hx)

-- a number in decimal: its digits, and its first one
record Written (w : List ℕ) (n : ℕ) : Type 0 where
  number : Number 10 w n
  nonzero : 1 ≤ n → get_or w 0 0 ≡ 48 → ⊥

written_single : (n : ℕ) → n < 10 → Written ((48 + n) ∷ []) n
unfolding value
written_single n small =
    let d : digit_value (48 + n) ≡ n = digit_of n small in
    let below : digit_value (48 + n) < 10 = omega arith in
    record { number = record { some = omega arith; digits = Every.more below Every.none; number = omega arith }; nonzero = λ some e. omega arith }

written_more : (w : List ℕ) (n : ℕ) → 10 ≤ n → Written w (n / 10) → Written (w ++ (48 + n % 10) ∷ []) n
written_more w n large h =
    let d : digit_value (48 + n % 10) ≡ n % 10 = digit_of (n % 10) (omega arith) in
    let below : digit_value (48 + n % 10) < 10 = omega arith in
    record {
      number =
          record {
            some = omega (arith, length-append w ((48 + n % 10) ∷ []));
            digits = every_snoc w (48 + n % 10) h.number.digits below;
            number = value_snoc 10 0 w (48 + n % 10) ∙ omega (arith, h.number.number);
          };
      nonzero =
          λ some e.
          h.nonzero (omega arith) (sym (get_or-append w ((48 + n % 10) ∷ []) 0 0 (omega (arith, h.number.some))) ∙ e);
    }

written_low : (k n : ℕ) → n < 10 → Written (decimal (suc k) n) n
written_low k n low = subst (λ (w : List ℕ). Written w n) (sym (decimal_single k n low)) (written_single n low)

written_step : (k n : ℕ) → n < 10 ^ suc (suc k) → Dec (n < 10) → (n / 10 < 10 ^ suc k → Written (decimal (suc k) (n / 10)) (n / 10)) → Written (decimal (suc (suc k)) n) n
written_step k n small (yes low) ih = written_low (suc k) n low
written_step k n small (no high) ih =
    let ten : 10 ≤ n = omega (arith, high) in
    let rest : n / 10 < 10 ^ suc k = omega (arith, pow-suc 10 (suc k)) in
    subst (λ (w : List ℕ). Written w n) (sym (decimal_more (suc k) n ten)) (written_more (decimal (suc k) (n / 10)) n ten (ih rest))

written_by_lem : (k n : ℕ) → n < 10 ^ suc k → Written (decimal (suc k) n) n
written_by_lem zero n small = written_low 0 n small
written_by_lem (suc k) n small = written_step k n small (dec_lt n 10) (written_by_lem k (n / 10))

-- a number below 10 ^ k in k decimal digits or fewer, and with no leading zero
pub decimal_number : (k n : ℕ) → n < 10 ^ suc k → Number 10 (decimal (suc k) n) n
decimal_number k n small = (written_by_lem k n small).number

pub decimal_shortest : (k n : ℕ) → n < 10 ^ suc k → get_or (decimal (suc k) n) 0 0 ≡ 48 → length (decimal (suc k) n) ≡ 1
decimal_shortest k zero small e = ap length (decimal_single k 0 (omega arith))
decimal_shortest k (suc n) small e = absurd ((written_by_lem k (suc n) small).nonzero (omega arith) e)

-- ---- a number's digits, with no leading zero, are its decimal form

-- digits after a number's decimal form
decimal_on : (p : List ℕ) (k v : ℕ) → 1 ≤ v → Every (λ x. digit_value x < 10) p → decimal (k + length p) (value 10 v p) ≡ decimal k v ++ p
unfolding value
decimal_on [] k v some h = ap (λ (j : ℕ). decimal j v) (omega arith) ∙ sym (append-nil (decimal k v))
decimal_on (x ∷ p) k v some (Every.more hx h) =
    let w : ℕ = v * 10 + digit_value x in
    let front : w / 10 ≡ v = omega arith in
    let last : 48 + w % 10 ≡ x = omega (arith, ten_digits x hx) in
    let one : decimal (suc k) w ≡ decimal k v ++ (x ∷ []) = decimal_more k w (omega arith) ∙ (λ i. decimal k (front i) ++ (last i ∷ [])) in
    ap (λ (j : ℕ). decimal j (value 10 w p)) (omega arith)
    ∙ decimal_on p (suc k) w (omega arith) h
    ∙ ap (λ (l : List ℕ). l ++ p) one
    ∙ append_assoc (decimal k v) (x ∷ []) p

decimal_from : (j x : ℕ) (p : List ℕ) → Every (λ y. digit_value y < 10) (x ∷ p) → (x ≡ 48 → length (x ∷ p) ≡ 1) → (d : ℕ) → digit_value x ≡ d
    → x ∷ p ≡ decimal (suc j + length p) (value 10 0 (x ∷ p))
unfolding value
decimal_from j x [] (Every.more hx hp) shortest zero e =
    let is : x ≡ 48 + (0 * 10 + digit_value x) = omega (arith, ten_digits x hx) in
    ap (λ (c : ℕ). c ∷ []) is
    ∙ sym (decimal_single j (0 * 10 + digit_value x) (omega arith))
    ∙ ap (λ (k : ℕ). decimal k (0 * 10 + digit_value x)) (omega arith)
decimal_from j x (y ∷ p) h shortest zero e = absurd (omega (arith, shortest (digit_zero x e)))
decimal_from j x p (Every.more hx hp) shortest (suc d) e =
    let v : ℕ = 0 * 10 + digit_value x in
    let is : x ≡ 48 + v = omega (arith, ten_digits x hx) in
    ap (λ (c : ℕ). c ∷ p) is
    ∙ ap (λ (l : List ℕ). l ++ p) (sym (decimal_single j v (omega arith)))
    ∙ sym (decimal_on p (suc j) v (omega arith) hp)

pub decimal_only : (k : ℕ) (p : List ℕ) (n : ℕ) → Number 10 p n → (get_or p 0 0 ≡ 48 → length p ≡ 1) → length p ≤ k → p ≡ decimal k n
decimal_only k [] n h shortest short = absurd (omega (arith, h.some))
decimal_only k (x ∷ p) n h shortest short =
    let j : ℕ = k - length (x ∷ p) in
    let all : suc j + length p ≡ k = omega arith in
    decimal_from j x p h.digits shortest (digit_value x) refl ∙ (λ i. decimal (all i) (h.number i))

-- ---- a number of k hexadecimal digits is below 16 ^ k

pub below_power : (v : ℕ) (p : List ℕ) → Every (λ x. digit_value x < 16) p → value 16 v p < (v + 1) * 16 ^ length p
unfolding value
below_power v [] h = omega (arith, mul-one (v + 1))
below_power v (x ∷ p) (Every.more hx h) =
    let first : v * 16 + digit_value x + 1 ≤ (v + 1) * 16 = omega arith in
    let power : (v + 1) * 16 * 16 ^ length p ≡ (v + 1) * 16 ^ suc (length p) = mul_assoc (v + 1) 16 (16 ^ length p) ∙ ap (λ (k : ℕ). (v + 1) * k) (sym (pow-succ' 16 (length p))) in
    subst (λ (k : ℕ). value 16 (v * 16 + digit_value x) p < k) power
    (lt_of_lt_of_le (below_power (v * 16 + digit_value x) p h) (mul-le-mul_right (16 ^ length p) first))
