-- RFC 4648, section 10: the test vectors of base64, as rows of one table.
use Rattle.std.specs.Prelude.{ℕ, ◌≡◌, List, [], ◌∷◌}
use Rattle.dhcid_text.specs.Dhcid.{base64}

-- bytes and their text
pub record Vector : Type 0 where
  pub bytes : List ℕ
  pub text : List ℕ

unfoldable pub vectors : List Vector
vectors =
    record { bytes = []; text = [] }
    ∷ record { bytes = 102 ∷ []; text = 90 ∷ 103 ∷ 61 ∷ 61 ∷ [] }
    ∷ record { bytes = 102 ∷ 111 ∷ []; text = 90 ∷ 109 ∷ 56 ∷ 61 ∷ [] }
    ∷ record { bytes = 102 ∷ 111 ∷ 111 ∷ []; text = 90 ∷ 109 ∷ 57 ∷ 118 ∷ [] }
    ∷ record { bytes = 102 ∷ 111 ∷ 111 ∷ 98 ∷ []; text = 90 ∷ 109 ∷ 57 ∷ 118 ∷ 89 ∷ 103 ∷ 61 ∷ 61 ∷ [] }
    ∷ record { bytes = 102 ∷ 111 ∷ 111 ∷ 98 ∷ 97 ∷ []; text = 90 ∷ 109 ∷ 57 ∷ 118 ∷ 89 ∷ 109 ∷ 69 ∷ 61 ∷ [] }
    ∷ record { bytes = 102 ∷ 111 ∷ 111 ∷ 98 ∷ 97 ∷ 114 ∷ []; text = 90 ∷ 109 ∷ 57 ∷ 118 ∷ 89 ∷ 109 ∷ 70 ∷ 121 ∷ [] }
    ∷ []

-- the bytes have the text beside them, by the definition in `dhcid_text`
unfoldable pub Holds : Vector → Type 0
Holds v = base64 v.bytes ≡ v.text
