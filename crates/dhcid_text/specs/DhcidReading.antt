-- What the code keeps while it reads the words of a DHCID, and what its functions promise one another. A reader of what words spell need not know it: that is specs/Dhcid.antt. Nor need a
-- caller: `begin`, `word` and `finish` speak of the state after some words (`After`), whatever that is.
-- An example, the words AAEB and Zg==, which are the base64 of the bytes 0 1 1 102. After AAE the state is of form Base64, its count is 3, and the digits 0 0 4 are `three` of a `Quantum`: the bytes 0 1,
-- and the bits 0 that the next byte begins with. After AAEB the group 0 1 1 is whole, the count is 4, and nothing of the next one was read (`none`). After Z, the digit 25, 25 is pending (`one`); after Zg
-- the bytes are 0 1 1 102, and 0 is pending (`two`). The = that follows is refused (`Refused64`): the base64 of 35 bytes has one = alone, its 48th character.
use Rattle.std.specs.Prelude.{ℕ, ◌+◌, ◌*◌, ◌/◌, ◌%◌, ◌≤◌, ◌<◌, ◌≡◌, ◌⊎◌, List, [], ◌∷◌, ◌++◌, length, take, drop}
use Rattle.base.specs.Bytes.{zero_filled}
use Rattle.base.specs.Logic.{Every, Pairwise}
use Rattle.dhcid_text.specs.Dhcid.{digit64, base64, joined, HexByte, marker, thirty_five, SpellsDhcid}
use Rattle.dhcid_text.specs.Base64.{value64}
use Rattle.dhcid_text.specs.declared.Form.{Form}
use Rattle.dhcid_text.specs.declared.Form.TheVariants.{Nothing, Base64, Marked, Digits, Refused}
use Rattle.dhcid_text.specs.declared.DhcidWords.{DhcidWords}
use Rattle.dhcid_text.specs.declared.Sextets.{Sextets}

-- ---- a state by its parts

-- by all its parts; and by those that base64 keeps apart from its bytes
abbrev pub state_of : Form → ℕ → ℕ → List ℕ → DhcidWords
state_of form count pending bytes = record { form = form; count = count; pending = pending; bytes = bytes }

abbrev pub with_bytes : Sextets → List ℕ → DhcidWords
with_bytes s bytes = state_of s.form s.count s.pending bytes

-- a state in which no character of its form was read
pub record Fresh (f : Form) (s : DhcidWords) : Type 0 where
  pub form : s.form ≡ f
  pub count : s.count ≡ 0
  pub bytes : s.bytes ≡ zero_filled []

-- ---- base64

-- of a quantum (RFC 4648, 4: 24 bits, which are written in four characters) the first n characters were read, the digits t: they give the bytes g, and the bits x that
-- the next byte begins with
pub data Quantum (n x : ℕ) (t g : List ℕ) : Type 0 where
  none : n ≡ 0 → t ≡ [] → g ≡ [] → Quantum n x t g
  one : n ≡ 1 → x < 64 → t ≡ digit64 x ∷ [] → g ≡ [] → Quantum n x t g
  two : (a : ℕ) → n ≡ 2 → x < 16 → a < 256 → t ≡ digit64 (a / 4) ∷ digit64 (a % 4 * 16 + x) ∷ [] → g ≡ a ∷ [] → Quantum n x t g
  three : (a b : ℕ) → n ≡ 3 → x < 4 → a < 256 → b < 256
      → t ≡ digit64 (a / 4) ∷ digit64 (a % 4 * 16 + b / 16) ∷ digit64 (b % 16 * 4 + x) ∷ [] → g ≡ a ∷ b ∷ [] → Quantum n x t g

-- the characters cs are the base64 of whole groups of three bytes, and a group that is begun; more are to come
pub record Begun64 (cs : List ℕ) (s : DhcidWords) : Type 0 where
  pub form : s.form ≡ Base64
  pub groups : ℕ
  pub whole : List ℕ
  pub long : length whole ≡ 3 * groups
  pub small : Every (λ b. b < 256) whole
  pub read : ℕ
  pub digits : List ℕ
  pub last : List ℕ
  pub group : Quantum read s.pending digits last
  pub chars : cs ≡ base64 whole ++ digits
  pub count : s.count ≡ 4 * groups + read
  pub more : s.count ≤ 47
  pub bytes : s.bytes ≡ zero_filled (whole ++ last)

-- the characters cs are the base64 of the state's 35 bytes
pub record Done64 (cs : List ℕ) (s : DhcidWords) : Type 0 where
  pub form : s.form ≡ Base64
  pub count : s.count ≡ 48
  pub long : length s.bytes ≡ 35
  pub small : Every (λ b. b < 256) s.bytes
  pub chars : cs ≡ base64 s.bytes

-- no base64 of 35 bytes begins with the characters cs
pub record Refused64 (cs : List ℕ) (s : DhcidWords) : Type 0 where
  pub form : s.form ≡ Refused
  pub none : (ds bs : List ℕ) → Every (λ b. b < 256) bs → length bs ≡ 35 → cs ++ ds ≡ base64 bs → ⊥

-- s is the state after the characters cs of base64
pub data Text64 (cs : List ℕ) (s : DhcidWords) : Type 0 where
  begun : Begun64 cs s → Text64 cs s
  done : Done64 cs s → Text64 cs s
  refused : Refused64 cs s → Text64 cs s

-- of the word w, which comes after count characters, the first r are the whole groups of digits that it begins with: all of them up to the last group
-- of 35 bytes, and none where a group is begun already
pub record Quanta64 (count : ℕ) (w : List ℕ) (r : ℕ) : Type 0 where
  pub whole : r % 4 ≡ 0
  pub within : r ≤ length w
  pub fits : (r ≡ 0) ⊎ ((count % 4 ≡ 0) × (count + r ≤ 44))
  pub digits : Every (λ c. value64 c < 64) (take r w)
  pub most : count % 4 ≡ 0 → count + r < 44 → r + 4 ≤ length w → Every (λ c. value64 c < 64) (take 4 (drop r w)) → ⊥

-- ---- hexadecimal digits

-- the digits ds are pairs, which spell the state's first bytes
pub record Begun16 (ds : List ℕ) (s : DhcidWords) : Type 0 where
  pub form : s.form ≡ Digits
  pub pairs : List (List ℕ)
  pub read : List ℕ
  pub spelled : Pairwise HexByte pairs read
  pub small : Every (λ b. b < 256) read
  pub chars : ds ≡ joined pairs
  pub count : s.count ≡ 2 * length read
  pub short : length read ≤ 35
  pub bytes : s.bytes ≡ zero_filled read

-- no pairs of digits that spell 35 bytes begin with the digits ds
pub record Refused16 (ds : List ℕ) (s : DhcidWords) : Type 0 where
  pub form : s.form ≡ Refused
  pub none : (es : List ℕ) (pairs : List (List ℕ)) (bs : List ℕ) → Pairwise HexByte pairs bs → length bs ≡ 35 → ds ++ es ≡ joined pairs → ⊥

-- s is the state after the hexadecimal digits ds, a whole number of pairs
pub data Text16 (ds : List ℕ) (s : DhcidWords) : Type 0 where
  begun : Begun16 ds s → Text16 ds s
  refused : Refused16 ds s → Text16 ds s

-- ---- words

-- s is the state after the words ws. Its form says which of these they are: none yet; base64, since the first is no marker; the marker; the
-- marker, the length, and words of an even number of digits each; or words that no words after them make a DHCID's
pub data After (ws : List (List ℕ)) (s : DhcidWords) : Type 0 where
  nothing : s.form ≡ Nothing → ws ≡ [] → After ws s
  in_base64 : s.form ≡ Base64 → (w : List ℕ) (vs : List (List ℕ)) → ws ≡ w ∷ vs → (w ≡ marker → ⊥) → Text64 (joined ws) s → After ws s
  marked : s.form ≡ Marked → ws ≡ marker ∷ [] → After ws s
  generic : s.form ≡ Digits → (digits : List (List ℕ)) → ws ≡ marker ∷ thirty_five ∷ digits → Every (λ w. length w % 2 ≡ 0) digits → Begun16 (joined digits) s → After ws s
  refused : s.form ≡ Refused → ((vs : List (List ℕ)) (bs : List ℕ) → SpellsDhcid (ws ++ vs) bs → ⊥) → After ws s
