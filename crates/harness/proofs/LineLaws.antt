-- Laws of specs/Printing.antt. Assumes nothing.
use Prim.Native.Nat.{ℕ, zero, suc, ◌+◌, ◌-◌, ◌/◌, ◌%◌, ◌^◌, ◌≤◌, ◌<◌}
use mathlib.Core.Bool.{Bool, cond}
use mathlib.Core.Path.{◌≡◌, refl, sym, ap, ap₂, ◌∙◌}
use mathlib.Core.List.{List, [], ◌∷◌, ◌++◌}
use native.Mathlib.Nat.{add-zero, pow-suc, one-le-pow, pow-le-pow_right}
use native.Mathlib.Numerals.{add-one, unary_clauses}
use native.Mathlib.Omega.{arith}
use lib.ListN.{length, get_or, take, length-take, length-append}
use lib.Seq.{take-nil, take-suc}
use borrow.Author.Tests.{lt-ltb}
use Rattle.base.specs.Bytes.{overlay}
use Rattle.base.proofs.Bytes.{length_overlay, overlay_append, overlay_none}
use Rattle.base.proofs.Tests.{by_ltb}
use Rattle.io.specs.Digits.{last_digits, IsDigitCount, hex_digit_ascii}
use Rattle.text.specs.Digits.{decimal, hex_digit}
use Rattle.text.proofs.DigitLaws.{decimal_single, decimal_more}
use Rattle.harness.specs.Printing.{hexadecimal, fitting, followed}
use Rattle.harness.specs.declared.Line.{Line}

-- ---- one thing behind the other

-- the line l, and y behind it, for which there is room
unfoldable laid : Line → List ℕ → Line
laid l y = record { bytes = overlay l.bytes l.len y; len = l.len + length y }

laid_none : (l : Line) → laid l [] ≡ l
unfolding laid
laid_none l = λ i. record { bytes = overlay_none l.bytes l.len i; len = add-zero l.len i }

take_both : (n : ℕ) (a b : List ℕ) → take n (a ++ b) ≡ take n a ++ take (n - length (take n a)) b
take_both zero a b = refl
take_both (suc n) [] b = let all : suc n ≡ suc n - 0 = omega arith in ap (λ (k : ℕ). take k b) all
take_both (suc n) (x ∷ a) b =
    let less : n - length (take n a) ≡ suc n - suc (length (take n a)) = omega arith in
    ap (◌∷◌ x) (take_both n a b ∙ ap (λ (k : ℕ). take n a ++ take k b) less)

-- where there is no room nothing is written
pub none_fits : (to : List ℕ) (at : ℕ) (x : List ℕ) → length to ≤ at
    → (at ≡ at + length (fitting to at x)) × (to ≡ overlay to at (fitting to at x))
none_fits to at x no_room =
    let none : length to - at ≡ 0 = omega arith in
    rw none (sym (add-zero at), sym (overlay_none to at))

pub followed_none : (l : Line) → l ≡ followed l []
unfolding followed laid
followed_none l = sym (ap (laid l) (take-nil (length l.bytes - l.len)) ∙ laid_none l)

-- a line that has no room is as it was
full : (l : Line) (x : List ℕ) → length l.bytes ≤ l.len → followed l x ≡ l
unfolding followed
full l x no_room =
    let h = none_fits l.bytes l.len x no_room in
    λ i. record { bytes = sym h.1 i; len = sym h.0 i }

followed_append : (l : Line) (a b : List ℕ) → followed (followed l a) b ≡ followed l (a ++ b)
unfolding followed laid
followed_append l a b =
    by_ltb (length l.bytes) l.len
    (λ over. ap (λ (m : Line). followed m b) (full l a (omega arith)) ∙ full l b (omega arith) ∙ sym (full l (a ++ b) (omega arith)))
    (λ within.
    let n : ℕ = length l.bytes - l.len in
    let y : List ℕ = take n a in
    let short : length y ≤ n = omega (arith, length-take n a) in
    let left : length (overlay l.bytes l.len y) - (l.len + length y) ≡ n - length y = omega (arith, length_overlay l.bytes l.len y (omega arith)) in
    let z : List ℕ = take (n - length y) b in
    let after : l.len + length y + length z ≡ l.len + length (y ++ z) = omega (arith, length-append y z) in
    ap (λ (k : ℕ). laid (laid l y) (take k b)) left
    ∙ (λ i. record { bytes = overlay_append l.bytes l.len y z within i; len = after i })
    ∙ ap (laid l) (sym (take_both n a b)))

pub one_more : (l : Line) (a b : List ℕ) {m r : Line} → m ≡ followed l a → r ≡ followed m b → r ≡ followed l (a ++ b)
one_more l a b first second = second ∙ ap (λ (k : Line). followed k b) first ∙ followed_append l a b

-- ---- hexadecimal, a byte at a time

hexadecimal_on : (bs : List ℕ) (b : ℕ) → hexadecimal (bs ++ (b ∷ [])) ≡ hexadecimal bs ++ hex_digit (b / 16) ∷ hex_digit (b % 16) ∷ []
unfolding hexadecimal
hexadecimal_on [] b = refl
hexadecimal_on (a ∷ bs) b = ap (λ (t : List ℕ). hex_digit (a / 16) ∷ hex_digit (a % 16) ∷ t) (hexadecimal_on bs b)

pub hex_more : (l : Line) (bs : List ℕ) (i : ℕ) {m r : Line} → m ≡ followed l (hexadecimal (take i bs)) → i < length bs
    → r ≡ followed m (hex_digit (get_or bs i 0 / 16) ∷ hex_digit (get_or bs i 0 % 16) ∷ []) → r ≡ followed l (hexadecimal (take (i + 1) bs))
hex_more l bs i done more is = rw (add-one, take-suc bs i 0, hexadecimal_on) (one_more l _ _ done is)

-- ---- decimal: the fewest digits that hold a number are those with no leading zero

below_ten : (v : ℕ) → v < 10 → hex_digit_ascii v ≡ 48 + v
below_ten v small = ap (λ (t : Bool). cond t (48 + v) (87 + v)) (lt-ltb v 10 small)

fewest_digits : (k n j : ℕ) → n < 10 ^ suc k → (1 ≤ k → 10 ^ k ≤ n) → k ≤ j → last_digits 10 (suc k) n ≡ decimal (suc j) n
fewest_digits zero n j small large short =
    let low : n % 10 ≡ n = omega arith in
    ap (λ (v : ℕ). v ∷ []) (below_ten (n % 10) (omega arith) ∙ ap (λ (v : ℕ). 48 + v) low) ∙ sym (decimal_single j n (omega arith))
fewest_digits (suc k) n zero small large short = absurd (omega arith)
fewest_digits (suc k) n (suc j) small large short =
    let ten : 10 ^ suc k ≤ n = large (omega arith) in
    let some : 1 ≤ 10 ^ k = one-le-pow k 10 (omega arith) in
    ap₂ (λ (l : List ℕ) (v : ℕ). l ++ (v ∷ []))
    (fewest_digits k (n / 10) j (omega (arith, pow-suc 10 (suc k))) (λ one. omega (arith, pow-suc 10 k)) (omega arith))
    (below_ten (n % 10) (omega arith))
    ∙ sym (decimal_more (suc j) n (omega (arith, pow-suc 10 k)))

pub spelled : (k n : ℕ) → IsDigitCount 10 1 n k → n < 10 ^ 20 → last_digits 10 k n ≡ decimal 20 n
spelled zero n f small = absurd (omega (arith, f.0))
spelled (suc k) n f small =
    let large : 1 ≤ k → 10 ^ k ≤ n = λ some. simp unary_clauses at (f.2 (omega arith)) in
    by_ltb k 20 (λ short. fewest_digits k n 19 f.1 large (omega arith))
    (λ long. absurd (omega (arith, large (omega arith), pow-le-pow_right {n = 10} (omega arith) long)))
