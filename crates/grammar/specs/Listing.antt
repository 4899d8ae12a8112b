-- What a listing spells: a relation between a text and a list of records, built up from bytes, words, entries and data. Document 01, "The listing's
-- grammar" (docs/RULES.md, 6.1 to 6.3), its first three paragraphs, in their order; each definition names the paragraph that it states. Nothing here
-- says how a listing is read, or what is wrong with a text that spells nothing. That no text spells two lists is a theorem (proofs/Theorems.antt,
-- one-list).
use Rattle.std.specs.Prelude.{ℕ, ◌≤◌, Bool, true, false, cond, ◌&&◌, ◌||◌, ◌≡◌, List, [], ◌∷◌, ◌++◌, map, leb, eqb, length}
use Rattle.base.specs.Bytes.{ascii}
use Rattle.base.specs.Logic.{Every}
use Rattle.name.specs.Label.{lower}
use Rattle.name.specs.Name
use Rattle.name.specs.Name.{canonical}
use Rattle.address.specs.Address.{SpellsA, SpellsAAAA}
use Rattle.dhcid_text.specs.Dhcid.{SpellsDhcid}

-- ---- bytes

-- Paragraph 1, which bytes are allowed: 9, 10 and 32 to 126. And what each is where no comment is open: 9 and 32 are blanks, 10 ends a line, 40 and 41
-- are ( and ), 59 is ;, and all others from 33 on are the bytes of words
pub data Kind : Type 0 where
  blank line_end opening closing semicolon word_byte not_allowed : Kind

-- RFC 5234's VCHAR, 33 to 126
unfoldable pub is_visible : ℕ → Bool
is_visible b = leb 33 b && leb b 126

unfoldable pub kind_of : ℕ → Kind
kind_of b =
    cond (eqb b 9 || eqb b 32) blank
    (cond (eqb b 10) line_end
    (cond (eqb b 40) opening
    (cond (eqb b 41) closing
    (cond (eqb b 59) semicolon
    (cond (is_visible b) word_byte not_allowed)))))

abbrev pub is_word_kind : Kind → Bool
is_word_kind word_byte = true
is_word_kind blank = false
is_word_kind line_end = false
is_word_kind opening = false
is_word_kind closing = false
is_word_kind semicolon = false
is_word_kind not_allowed = false

-- Paragraph 1, comments: a comment may hold every byte that is allowed but 10, at which it is over
abbrev pub is_comment_kind : Kind → Bool
is_comment_kind line_end = false
is_comment_kind not_allowed = false
is_comment_kind blank = true
is_comment_kind opening = true
is_comment_kind closing = true
is_comment_kind semicolon = true
is_comment_kind word_byte = true

abbrev pub is_word_byte : ℕ → Bool
is_word_byte b = is_word_kind (kind_of b)

abbrev pub is_comment_byte : ℕ → Bool
is_comment_byte b = is_comment_kind (kind_of b)

-- the text begins with a byte that passes the test p
abbrev pub begins : (ℕ → Bool) → List ℕ → Bool
begins p [] = false
begins p (b ∷ t) = p b

-- the text t is w and then rest, and w is the longest run of bytes that pass the test p: rest does not go on with one
pub record LongestRun (p : ℕ → Bool) (t w rest : List ℕ) : Type 0 where
  pub cut : t ≡ w ++ rest
  pub each : Every (λ b. p b ≡ true) w
  pub longest : begins p rest ≡ false

-- ---- words

-- Paragraph 1, parentheses: outside them or inside. They do not nest, so that there is nothing deeper
pub data Depth : Type 0 where
  outside inside : Depth

-- Paragraph 1, comments, parentheses and words. Piece d t ws d' rest: at the depth d the text t begins with one piece, and rest follows it at the depth
-- d'. A piece is a blank; a 10 inside parentheses, a blank there; a ( outside; a ) inside; a comment, which is ; and the longest run of bytes that it
-- may hold; or a word, which is the longest run of word bytes. A word has itself as its words ws, and every other piece has none
pub data Piece : Depth → List ℕ → List (List ℕ) → Depth → List ℕ → Type 0 where
  a_blank : {d : Depth} {b : ℕ} {rest : List ℕ} → kind_of b ≡ blank → Piece d (b ∷ rest) [] d rest
  line_inside : {b : ℕ} {rest : List ℕ} → kind_of b ≡ line_end → Piece inside (b ∷ rest) [] inside rest
  opens : {b : ℕ} {rest : List ℕ} → kind_of b ≡ opening → Piece outside (b ∷ rest) [] inside rest
  closes : {b : ℕ} {rest : List ℕ} → kind_of b ≡ closing → Piece inside (b ∷ rest) [] outside rest
  a_comment : {d : Depth} {b : ℕ} {t c rest : List ℕ} → kind_of b ≡ semicolon → LongestRun is_comment_byte t c rest → Piece d (b ∷ t) [] d rest
  a_word : {d : Depth} {b : ℕ} {t w rest : List ℕ} → LongestRun is_word_byte t (b ∷ w) rest → Piece d t ((b ∷ w) ∷ []) d rest

-- Words d t ws: from the depth d on the text t is such pieces, one after the other, up to its end, which lies outside parentheses; ws are their words
pub data Words : Depth → List ℕ → List (List ℕ) → Type 0 where
  at_end : Words outside [] []
  more : {d d' : Depth} {t rest : List ℕ} {vs us ws : List (List ℕ)} → Piece d t vs d' rest → Words d' rest us → ws ≡ vs ++ us → Words d t ws

-- Paragraph 1, entries: the text t is cut into the entries es. A 10 ends each but the last, and the end of the text the last. That 10 stands outside
-- parentheses, since the entry's own text ends there; and no such 10 stands within an entry, since no piece outside is a 10
pub data Entries : List ℕ → List (List ℕ) → Type 0 where
  last : {e : List ℕ} {ws : List (List ℕ)} → Words outside e ws → Entries e (e ∷ [])
  more : {t e u : List ℕ} {ws es : List (List ℕ)} → t ≡ e ++ 10 ∷ u → Words outside e ws → Entries u es → Entries t (e ∷ es)

-- ---- owner, optional IN, type, data

pub data RecordType : Type 0 where
  A AAAA DHCID : RecordType

unfoldable pub mnemonic : RecordType → List ℕ
mnemonic RecordType.A = ascii "A"
mnemonic RecordType.AAAA = ascii "AAAA"
mnemonic RecordType.DHCID = ascii "DHCID"

-- Paragraph 3, a record: the owner in canonical wire form, the type, and the data as bytes
pub record ResourceRecord : Type 0 where
  pub owner : List ℕ
  pub rtype : RecordType
  pub rdata : List ℕ

-- Paragraph 1, class and type in letters of either case: two words are the same but for the case of their letters
unfoldable pub EitherCase : List ℕ → List ℕ → Type 0
EitherCase v w = map lower v ≡ map lower w

-- Paragraph 3, the owner: the word w is a proper name in text, and n is that name in canonical wire form
pub record Owner (w n : List ℕ) : Type 0 where
  pub wire : List ℕ
  pub spells : Name.SpellsName w wire
  pub form : n ≡ canonical wire

-- Paragraph 1, what may stand between owner and type: at most one word, and that one IN
pub record Between (ws : List (List ℕ)) : Type 0 where
  pub class : Every (λ w. EitherCase w (ascii "IN")) ws
  pub once : length ws ≤ 1

-- the words ws that follow the owner: what may stand between, a word for the type k, and then the data's words ds
pub record Head (ws : List (List ℕ)) (k : RecordType) (ds : List (List ℕ)) : Type 0 where
  pub between : List (List ℕ)
  pub type : List ℕ
  pub words : ws ≡ between ++ type ∷ ds
  pub optional : Between between
  pub known : EitherCase type (mnemonic k)

-- Paragraph 2, the data of each type: the words ds, with none left over, spell the bytes bs, which are four, sixteen or 35
pub data Rdata : RecordType → List (List ℕ) → List ℕ → Type 0 where
  in_a : {w bs : List ℕ} → SpellsA w bs → Rdata RecordType.A (w ∷ []) bs
  in_aaaa : {w bs : List ℕ} → SpellsAAAA w bs → Rdata RecordType.AAAA (w ∷ []) bs
  in_dhcid : {ds : List (List ℕ)} {bs : List ℕ} → SpellsDhcid ds bs → Rdata RecordType.DHCID ds bs

-- ---- entries and listings

-- Paragraph 3, an entry with words: the text e spells the record r. Its words are owner, head and data; and the owner stands at the very beginning, so
-- that the first byte of e is a word's
pub record RecordEntry (e : List ℕ) (r : ResourceRecord) : Type 0 where
  pub owner : List ℕ
  pub after_owner : List (List ℕ)
  pub data_words : List (List ℕ)
  pub words : Words outside e (owner ∷ after_owner)
  pub first : begins is_word_byte e ≡ true
  pub name : Owner owner r.owner
  pub head : Head after_owner r.rtype data_words
  pub rdata : Rdata r.rtype data_words r.rdata

-- Paragraphs 1 and 3: each of the entries es that has words spells one of the records rs, in turn; an entry with none is no record
pub data Records : List (List ℕ) → List ResourceRecord → Type 0 where
  none : Records [] []
  no_record : {e : List ℕ} {es : List (List ℕ)} {rs : List ResourceRecord} → Words outside e [] → Records es rs → Records (e ∷ es) rs
  a_record : {e : List ℕ} {es : List (List ℕ)} {r : ResourceRecord} {rs : List ResourceRecord} → RecordEntry e r → Records es rs → Records (e ∷ es) (r ∷ rs)

-- Paragraph 3: the text t spells the list rs. That its bytes are then allowed ones and its parentheses outside comments pairs that do not nest, and that a
-- text which has both can be cut into entries, are theorems (specs/Whole.antt; proofs/Theorems.antt, entries-exactly)
pub record Spells (t : List ℕ) (rs : List ResourceRecord) : Type 0 where
  pub entries : List (List ℕ)
  pub cut : Entries t entries
  pub records : Records entries rs
