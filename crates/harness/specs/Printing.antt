-- The lines that the test programs print.
use Rattle.std.specs.Prelude.{ℕ, ◌+◌, ◌-◌, ◌/◌, ◌%◌, List, [], ◌∷◌, ◌++◌, length, take}
use Rattle.base.specs.Bytes.{overlay, ascii}
use Rattle.text.specs.Digits.{decimal, hex_digit}
use Rattle.harness.specs.declared.Line.{Line}

-- bytes in hexadecimal, two digits each
unfoldable pub hexadecimal : List ℕ → List ℕ
hexadecimal [] = []
hexadecimal (b ∷ bs) = hex_digit (b / 16) ∷ hex_digit (b % 16) ∷ hexadecimal bs

-- a refusal's number, and the offset of the faulty entry
unfoldable pub refusal : ℕ → ℕ → List ℕ
refusal number offset = ascii "refused " ++ decimal 20 number ++ ascii " at " ++ decimal 20 offset

-- a record: the owner's bytes, the type's number and the data
unfoldable pub resource_record : List ℕ → ℕ → List ℕ → List ℕ
resource_record owner rtype rdata = hexadecimal owner ++ ascii " " ++ decimal 20 rtype ++ ascii " " ++ hexadecimal rdata

-- what of x there is room for in `to`, from index `at` on
abbrev pub fitting : List ℕ → ℕ → List ℕ → List ℕ
fitting to at x = take (length to - at) x

-- the line l, and behind it what of x there is room for
unfoldable pub followed : Line → List ℕ → Line
followed l x =
    let part : List ℕ = fitting l.bytes l.len x in
    record { bytes = overlay l.bytes l.len part; len = l.len + length part }

-- what a program prints of a line
unfoldable pub shown : Line → List ℕ
shown l = take l.len l.bytes
