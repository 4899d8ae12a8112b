-- The line of a well-formed record is an entry that spells the record, and a 10. Assumes nothing.
use Prim.Native.Nat.{ℕ, ◌<◌}
use mathlib.Core.Bool.{true, false}
use mathlib.Core.Path.{◌≡◌, refl, sym, ap, subst, ◌∙◌}
use mathlib.Core.List.{List, [], ◌∷◌, ◌++◌, append_assoc, append-nil}
use native.Mathlib.Omega.{arith}
use Rattle.base.specs.Logic.{Every}
use Rattle.name.specs.Promise.{text_of}
use Rattle.name.proofs.Theorems.{spelled}
use Rattle.address.proofs.Theorems.{written_a_lem, written_aaaa_lem}
use Rattle.dhcid_text.proofs.Theorems.{written_dhcid}
use Rattle.grammar.specs.Listing.{blank, kind_of, is_word_kind, is_word_byte, begins, outside, Piece, Words, Entries}
use Rattle.grammar.specs.Listing.{RecordType, mnemonic, ResourceRecord, EitherCase, Owner, Head, Rdata, RecordEntry, Records, Spells}
use Rattle.writer.specs.Line.{RdataOf, WellFormedRecord, rdata_text, line, lines}
use Rattle.writer.proofs.LineLaws.{line_parts}
use Rattle.writer.proofs.WordLaws.{Word, owner_word, type_word_lem, rdata_word}

-- ---- three words, with a blank between each two

blank_kind : kind_of 32 ≡ blank
unfolding kind_of
blank_kind = refl

no_word : is_word_byte 32 ≡ false
no_word = ap is_word_kind blank_kind

word_piece : (w rest : List ℕ) → Word w → begins is_word_byte rest ≡ false → Piece outside (w ++ rest) (w ∷ []) outside rest
word_piece [] rest h stops = absurd (omega (arith, h.some))
word_piece (b ∷ w) rest h stops = Piece.a_word (record { cut = refl; each = h.each; longest = stops })

last_word : (w : List ℕ) → Word w → Words outside w (w ∷ [])
last_word w h = Words.more (subst (λ (t : List ℕ). Piece outside t (w ∷ []) outside []) (append-nil w) (word_piece w [] h refl)) Words.at_end refl

word_blank : (w rest : List ℕ) (ws : List (List ℕ)) → Word w → Words outside rest ws → Words outside (w ++ 32 ∷ rest) (w ∷ ws)
word_blank w rest ws h after = Words.more (word_piece w (32 ∷ rest) h no_word) (Words.more (Piece.a_blank blank_kind) after refl) refl

begins_word : (w rest : List ℕ) → Word w → begins is_word_byte (w ++ rest) ≡ true
begins_word [] rest h = absurd (omega (arith, h.some))
begins_word (b ∷ w) rest h = first h.each
  where
    first : Every (λ a. is_word_byte a ≡ true) (b ∷ w) → is_word_byte b ≡ true
    first (Every.more e es) = e

-- ---- the line's entry

-- the line but for its 10
entry_of : ResourceRecord → List ℕ
entry_of r = text_of r.owner ++ 32 ∷ (mnemonic r.rtype ++ 32 ∷ rdata_text r.rtype r.rdata)

line_cut : (r : ResourceRecord) (u : List ℕ) → line r ++ u ≡ entry_of r ++ 10 ∷ u
unfolding entry_of
line_cut r u =
    let o = text_of r.owner in
    let m = mnemonic r.rtype in
    let d = rdata_text r.rtype r.rdata in
    ap (λ (l : List ℕ). l ++ u) (line_parts r) ∙ append_assoc (o ++ 32 ∷ m ++ 32 ∷ d) (10 ∷ []) u ∙ ap (λ (l : List ℕ). l ++ 10 ∷ u) (append_assoc o (32 ∷ m) (32 ∷ d))

module _ (r : ResourceRecord) (h : WellFormedRecord r) where
  entry_words : Words outside (entry_of r) (text_of r.owner ∷ mnemonic r.rtype ∷ rdata_text r.rtype r.rdata ∷ [])
  unfolding entry_of
  entry_words =
      let d = rdata_text r.rtype r.rdata in
      word_blank (text_of r.owner) _ _ (owner_word r.owner h.proper)
      (word_blank (mnemonic r.rtype) _ _ (type_word_lem r.rtype) (last_word d (rdata_word r.rtype r.rdata h.bytes h.rdata)))

  entry_first : begins is_word_byte (entry_of r) ≡ true
  unfolding entry_of
  entry_first = begins_word (text_of r.owner) (32 ∷ (mnemonic r.rtype ++ 32 ∷ rdata_text r.rtype r.rdata)) (owner_word r.owner h.proper)

  entry_owner : Owner (text_of r.owner) r.owner
  entry_owner = record { wire = r.owner; spells = spelled r.owner h.proper; form = sym h.canonical_owner }

type_head : (k : RecordType) (d : List ℕ) → Head (mnemonic k ∷ d ∷ []) k (d ∷ [])
unfolding EitherCase
type_head k d =
    record { between = []; type = mnemonic k; words = refl; optional = record { class = Every.none; once = omega arith }; known = refl }

entry_rdata : (k : RecordType) (bs : List ℕ) → Every (λ b. b < 256) bs → RdataOf k bs → Rdata k (rdata_text k bs ∷ []) bs
unfolding RdataOf rdata_text
entry_rdata RecordType.A bs bytes e = Rdata.in_a (written_a_lem bs bytes e)
entry_rdata RecordType.AAAA bs bytes e = Rdata.in_aaaa (written_aaaa_lem bs bytes e)
entry_rdata RecordType.DHCID bs bytes e = Rdata.in_dhcid (written_dhcid bs bytes e)

record_entry : (r : ResourceRecord) → WellFormedRecord r → RecordEntry (entry_of r) r
record_entry r h =
    record {
      owner = text_of r.owner;
      after_owner = mnemonic r.rtype ∷ rdata_text r.rtype r.rdata ∷ [];
      data_words = rdata_text r.rtype r.rdata ∷ [];
      words = entry_words r h;
      first = entry_first r h;
      name = entry_owner r h;
      head = type_head r.rtype (rdata_text r.rtype r.rdata);
      rdata = entry_rdata r.rtype r.rdata h.bytes h.rdata;
    }

-- ---- lines

-- a line before a text
line_before : (r : ResourceRecord) (u : List ℕ) (rs : List ResourceRecord) → WellFormedRecord r → Spells u rs → Spells (line r ++ u) (r ∷ rs)
line_before r u rs h s =
    record {
      entries = entry_of r ∷ s.entries;
      cut = Entries.more (line_cut r u) (entry_words r h) s.cut;
      records = Records.a_record (record_entry r h) s.records;
    }

no_line : Spells [] []
no_line = record { entries = [] ∷ []; cut = Entries.last Words.at_end; records = Records.no_record Words.at_end Records.none }

pub lines_spelled : (rs : List ResourceRecord) → Every WellFormedRecord rs → Spells (lines rs) rs
unfolding lines
lines_spelled [] Every.none = no_line
lines_spelled (r ∷ rs) (Every.more h hs) = line_before r (lines rs) rs h (lines_spelled rs hs)

pub line_spelled : (r : ResourceRecord) → WellFormedRecord r → Spells (line r) (r ∷ [])
line_spelled r h = subst (λ (t : List ℕ). Spells t (r ∷ [])) (append-nil (line r)) (line_before r [] [] h no_line)
