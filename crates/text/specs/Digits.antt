-- Numbers in digits. A digit's value does not depend on the base: one of 0 to 9 or, in either case, A to F.
use Rattle.std.specs.Prelude.{ℕ, zero, suc, ◌+◌, ◌-◌, ◌*◌, ◌/◌, ◌%◌, ◌≤◌, ◌<◌, Bool, true, false, cond, ◌&&◌, ◌≡◌, List, [], ◌∷◌, ◌++◌, leb, ltb, length}
use Prim.Native.Char.{code}
use Rattle.base.specs.Logic.{Every}

-- the value of a digit; 16, which is no digit's in the bases here, for any other byte
unfoldable pub digit_value : ℕ → ℕ
digit_value x =
    cond (leb (code "0") x && leb x (code "9")) (x - code "0")
    (cond (leb (code "A") x && leb x (code "F")) (x - code "A" + 10)
    (cond (leb (code "a") x && leb x (code "f")) (x - code "a" + 10) 16))

-- the number that digits go on to, from v on, the highest digit first
unfoldable pub value : ℕ → ℕ → List ℕ → ℕ
value base v [] = v
value base v (x ∷ w) = value base (v * base + digit_value x) w

-- w is one or more digits of the base, and n their number
pub record Number (base : ℕ) (w : List ℕ) (n : ℕ) : Type 0 where
  pub some : 1 ≤ length w
  pub digits : Every (λ x. digit_value x < base) w
  pub number : value base 0 w ≡ n

-- parts with the byte s between each two
unfoldable pub separated : ℕ → List (List ℕ) → List ℕ
separated s [] = []
separated s (p ∷ []) = p
separated s (p ∷ q ∷ ps) = p ++ s ∷ separated s (q ∷ ps)

-- a part as it stands among others: the first as it is, each later one after the separator
abbrev pub preceded : Bool → ℕ → List ℕ → List ℕ
preceded true s p = p
preceded false s p = s ∷ p

-- a number in decimal, of at most k digits, with no leading zero
unfoldable pub decimal : ℕ → ℕ → List ℕ
decimal zero n = []
decimal (suc k) n = let front = decimal k (n / 10) in cond (ltb n 10) ((code "0" + n) ∷ []) (front ++ (code "0" + n % 10) ∷ [])

-- the hexadecimal digit of a number below 16, in lower case
unfoldable pub hex_digit : ℕ → ℕ
hex_digit v = cond (ltb v 10) (code "0" + v) (code "a" + (v - 10))
