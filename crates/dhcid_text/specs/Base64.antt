-- Base64 in the code's pieces: the value of one digit, and one group as it is written. No meaning cites them: what base64 spells is Dhcid.antt, by its encoder.
use Rattle.std.specs.Prelude.{ℕ, ◌+◌, ◌-◌, ◌*◌, ◌/◌, ◌%◌, cond, ◌&&◌, List, [], ◌∷◌, leb, eqb}
use Prim.Native.Char.{code}
use Rattle.dhcid_text.specs.Dhcid.{digit64}

-- the value of a base64 digit; 64, which is no digit's, for any other byte
unfoldable pub value64 : ℕ → ℕ
value64 b =
    cond (leb (code "A") b && leb b (code "Z")) (b - code "A")
    (cond (leb (code "a") b && leb b (code "z")) (b - code "a" + 26)
    (cond (leb (code "0") b && leb b (code "9")) (b - code "0" + 52)
    (cond (eqb b (code "+")) 62
    (cond (eqb b (code "/")) 63 64))))

-- a group of base64 as it is written: the digits of two bytes and of the first two bits of a third, and the fourth character
unfoldable pub group : ℕ → ℕ → ℕ → ℕ → List ℕ
group a b c fourth = digit64 (a / 4) ∷ digit64 (a % 4 * 16 + b / 16) ∷ digit64 (b % 16 * 4 + c / 64) ∷ fourth ∷ []
