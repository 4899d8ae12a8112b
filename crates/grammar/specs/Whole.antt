-- What document 01 says of a listing that spells a list as a whole ("The listing's grammar", paragraph 3; docs/RULES.md, 6.2): its bytes are allowed
-- ones, its parentheses outside comments stand in pairs, each ( before its ), that do not nest, and its data are 4, 16 or 35 bytes. It is told of the
-- text alone, with no word of pieces or entries, and specs/Listing.antt does not use it: that a listing which spells a list has it so is a theorem
-- (proofs/Theorems.antt, allowed-bytes and after it).
use Rattle.std.specs.Prelude.{ℕ, zero, suc, ◌≤◌, Bool, false, true, cond, not, ◌||◌, ◌≡◌, List, [], ◌∷◌, ◌++◌, eqb, length}
use Rattle.base.specs.Bytes.{ascii}
use Rattle.base.specs.Logic.{Every}
use Rattle.grammar.specs.Listing.{RecordType, ResourceRecord}

-- ---- bytes

-- Paragraph 1, the bytes allowed: 9, 10, 32 to 126
pub data AllowedByte (b : ℕ) : Type 0 where
  tab : b ≡ 9 → AllowedByte b
  line_end : b ≡ 10 → AllowedByte b
  printable : 32 ≤ b → b ≤ 126 → AllowedByte b

-- ---- parentheses

-- Paragraph 1, comments: is one open after the byte b, if one was open before it or not? A ; (59) opens one, which runs up to the next 10
abbrev pub open_after : Bool → ℕ → Bool
open_after false b = eqb b 59
open_after true b = not (eqb b 10)

-- the bytes of t outside comments: those after which none is open; o says whether one is open before t
unfoldable pub uncommented : Bool → List ℕ → List ℕ
uncommented o [] = []
uncommented o (b ∷ t) = let rest = uncommented (open_after o b) t in cond (open_after o b) rest (b ∷ rest)

-- of bytes, the parentheses ( (40) and ) (41) alone
unfoldable pub parentheses : List ℕ → List ℕ
parentheses [] = []
parentheses (b ∷ t) = let rest = parentheses t in cond (eqb b 40 || eqb b 41) (b ∷ rest) rest

-- n pairs, each ( before its ), that do not nest
unfoldable pub pairs : ℕ → List ℕ
pairs zero = []
pairs (suc n) = ascii "()" ++ pairs n

-- a text with allowed bytes alone, and with its parentheses outside comments in such pairs
pub record Whole (t : List ℕ) : Type 0 where
  pub allowed : Every AllowedByte t
  pub count : ℕ
  pub paired : parentheses (uncommented false t) ≡ pairs count

-- ---- data

-- Paragraph 3, the data as 4, 16 or 35 bytes
abbrev pub rdata_size : RecordType → ℕ
rdata_size RecordType.A = 4
rdata_size RecordType.AAAA = 16
rdata_size RecordType.DHCID = 35

unfoldable pub Sized : ResourceRecord → Type 0
Sized r = length r.rdata ≡ rdata_size r.rtype
