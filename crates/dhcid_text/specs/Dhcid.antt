-- How the data of a DHCID record are spelled. Document 01, "DHCID bytes and their text" (docs/RULES.md, 5.3); RFC 4648, 4; RFC 3597, 5.
use Rattle.std.specs.Prelude.{ℕ, ◌+◌, ◌-◌, ◌*◌, ◌/◌, ◌%◌, ◌<◌, true, cond, ◌≡◌, ◌⊎◌, List, [], ◌∷◌, ◌++◌, eqb, ltb, length}
use Prim.Native.Char.{code}
use Rattle.base.specs.Bytes.{ascii}
use Rattle.base.specs.Dhcid.{well_formed}
use Rattle.base.specs.Logic.{Every, Pairwise}
use Rattle.text.specs.Digits.{Number}

-- RFC 4648, table 1: the digit of a number below 64: A to Z, a to z, 0 to 9, + and /
unfoldable pub digit64 : ℕ → ℕ
digit64 v =
    cond (ltb v 26) (code "A" + v)
    (cond (ltb v 52) (code "a" + (v - 26))
    (cond (ltb v 62) (code "0" + (v - 52))
    (cond (eqb v 62) (code "+") (code "/"))))

-- RFC 4648, 4: each three bytes are four digits of six bits; a last group of one or two bytes is two or three digits, with zero bits after the bytes',
-- and is filled up with =
unfoldable pub base64 : List ℕ → List ℕ
base64 [] = []
base64 (a ∷ []) = digit64 (a / 4) ∷ digit64 (a % 4 * 16) ∷ code "=" ∷ code "=" ∷ []
base64 (a ∷ b ∷ []) = digit64 (a / 4) ∷ digit64 (a % 4 * 16 + b / 16) ∷ digit64 (b % 16 * 4) ∷ code "=" ∷ []
base64 (a ∷ b ∷ c ∷ bs) = digit64 (a / 4) ∷ digit64 (a % 4 * 16 + b / 16) ∷ digit64 (b % 16 * 4 + c / 64) ∷ digit64 (c % 64) ∷ base64 bs

-- words joined
unfoldable pub joined : List (List ℕ) → List ℕ
joined [] = []
joined (w ∷ ws) = w ++ joined ws

-- two hexadecimal digits and their byte
pub record HexByte (p : List ℕ) (b : ℕ) : Type 0 where
  pub hexadecimal : Number 16 p b
  pub two : length p ≡ 2

-- the word that a generic form begins with
abbrev pub marker : List ℕ
marker = ascii "\\#"

-- the word that says that 35 bytes follow
abbrev pub thirty_five : List ℕ
thirty_five = ascii "35"

-- RFC 3597, 5, for 35 bytes: these two words, and words of an even number of hexadecimal digits each, a byte for each two
pub record Generic (ws : List (List ℕ)) (bs : List ℕ) : Type 0 where
  pub digits : List (List ℕ)
  pub words : ws ≡ marker ∷ thirty_five ∷ digits
  pub even : Every (λ w. length w % 2 ≡ 0) digits
  pub pairs : List (List ℕ)
  pub all : joined digits ≡ joined pairs
  pub bytes : Pairwise HexByte pairs bs

-- the words ws spell the DHCID bs: joined they are its base64, or they are its generic form; and bs passes refusal 15's test
pub record SpellsDhcid (ws : List (List ℕ)) (bs : List ℕ) : Type 0 where
  pub form : (joined ws ≡ base64 bs) ⊎ Generic ws bs
  pub bytes : Every (λ b. b < 256) bs
  pub test : well_formed bs ≡ true
