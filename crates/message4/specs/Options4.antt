-- The options of DHCPv4 messages: which bytes they are, and where their data stand. Document 01, "Messages" (docs/RULES.md, 4.1); RFC 2132, 2, 3.1
-- (Pad) and 3.2 (End). Options are told by the bytes that are written for them; that no bytes are those of two lists of options is a theorem.
use Rattle.std.specs.Prelude.{ℕ, ◌+◌, ◌≤◌, ◌≡◌, List, [], ◌∷◌, ◌++◌, length}
use Rattle.base.specs.Logic.{Every}
use Rattle.message.specs.Options.{Located}

-- what stands in an options field before its end: a byte of padding, or an option, by its code and its data
pub data Field4 : Type 0 where
  pad : Field4
  option : ℕ → List ℕ → Field4

-- padding is the byte 0; an option is its code, the length of its data, and the data
unfoldable pub bytes4 : Field4 → List ℕ
bytes4 pad = 0 ∷ []
bytes4 (option code d) = code ∷ length d ∷ d

-- 0 and 255 are no option's code: they are padding and End
unfoldable pub Code4 : Field4 → Type 0
Code4 pad = Unit {0}
Code4 (option code d) = (1 ≤ code) × (code ≤ 254)

unfoldable pub written4 : List Field4 → List ℕ
written4 [] = []
written4 (f ∷ fs) = bytes4 f ++ written4 fs

-- the bytes b have the fields fs up to End (255); what follows End is ignored
pub record Options4 (b : List ℕ) (fs : List Field4) : Type 0 where
  pub after : List ℕ
  pub cut : b ≡ written4 fs ++ 255 ∷ after
  pub codes : Every Code4 fs

-- ---- where they stand

-- the options of an options field that starts at the offset at
unfoldable pub located4 : ℕ → List Field4 → List Located
located4 at [] = []
located4 at (pad ∷ fs) = located4 (at + 1) fs
located4 at (option code d ∷ fs) = record { code = code; start = at + 2; bytes = d } ∷ located4 (at + 2 + length d) fs
