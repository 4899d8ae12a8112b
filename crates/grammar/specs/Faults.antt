-- What a refusal of a listing is: which number, and at which offset. Document 01, "The listing's grammar", paragraph 4 (docs/RULES.md, 6.4). The
-- faults of shape stand here by name, the others by negation of what specs/Listing.antt asks, each where what goes before it holds. That a text is
-- refused exactly if it spells no list, with one number at one offset, is a theorem (proofs/Theorems.antt, spelled-or-refused and after it).
use Rattle.std.specs.Prelude.{ℕ, true, false, ◌≡◌, List, [], ◌∷◌, ◌++◌, length}
use Rattle.base.specs.Refusal.{entry_shape, entry_owner, entry_type, entry_data}
use Rattle.grammar.specs.Listing.{Kind, opening, closing, kind_of, is_word_byte, begins, Depth, outside, inside, Piece, Words, RecordType, ResourceRecord, Owner, Head, Rdata, Records}

-- 20. The entry that begins with the text t, from the depth d on, has a fault of its shape: a ( that is never closed, a nested (, a stray ), a byte that
-- is not allowed (which ends the run of a comment too); or pieces as they should be and then such a fault, up to which the entry extends
pub data ShapeFault : Depth → List ℕ → Type 0 where
  never_closed : ShapeFault inside []
  nested : {b : ℕ} {t : List ℕ} → kind_of b ≡ opening → ShapeFault inside (b ∷ t)
  stray : {b : ℕ} {t : List ℕ} → kind_of b ≡ closing → ShapeFault outside (b ∷ t)
  not_allowed : {d : Depth} {b : ℕ} {t : List ℕ} → kind_of b ≡ Kind.not_allowed → ShapeFault d (b ∷ t)
  later : {d d' : Depth} {t rest : List ℕ} {ws : List (List ℕ)} → Piece d t ws d' rest → ShapeFault d' rest → ShapeFault d t

-- 21, 22, 24. The entry with the text e, which has a right shape and words, has a fault of its words, and the first by number is n: its first byte is not
-- a word's, or its owner is no proper name; what follows the owner is no head; what follows the head is not the data, or more than them
pub data WordFault : List ℕ → ℕ → Type 0 where
  indented : {e o : List ℕ} {ws : List (List ℕ)} → Words outside e (o ∷ ws) → begins is_word_byte e ≡ false → WordFault e entry_owner
  no_owner : {e o : List ℕ} {ws : List (List ℕ)} → Words outside e (o ∷ ws) → ((n : List ℕ) → Owner o n → ⊥) → WordFault e entry_owner
  no_type : {e o n : List ℕ} {ws : List (List ℕ)} → Words outside e (o ∷ ws) → begins is_word_byte e ≡ true → Owner o n
      → ((k : RecordType) (ds : List (List ℕ)) → Head ws k ds → ⊥) → WordFault e entry_type
  no_data : {e o n : List ℕ} {ws ds : List (List ℕ)} {k : RecordType} → Words outside e (o ∷ ws) → begins is_word_byte e ≡ true → Owner o n → Head ws k ds
      → ((bs : List ℕ) → Rdata k ds bs → ⊥) → WordFault e entry_data

-- the first entry of the text t is faulty, and the first of its faults by number is n
pub data Faulty : List ℕ → ℕ → Type 0 where
  shape : {t : List ℕ} → ShapeFault outside t → Faulty t entry_shape
  last_entry : {e : List ℕ} {n : ℕ} → WordFault e n → Faulty e n
  ended_entry : {t e : List ℕ} (u : List ℕ) {n : ℕ} → t ≡ e ++ 10 ∷ u → WordFault e n → Faulty t n

-- entries, each with the 10 that ends it
unfoldable pub ended : List (List ℕ) → List ℕ
ended [] = []
ended (e ∷ es) = e ++ 10 ∷ ended es

-- the text t is refused with the number n at the offset: entries that spell the records rs stand first, and what stands from there on begins with a faulty
-- entry. So that is the first one, and the offset, document 01's place (docs/RULES.md, 1.3), is that of its first byte
pub record Refused (t : List ℕ) (rs : List ResourceRecord) (n offset : ℕ) : Type 0 where
  pub before : List (List ℕ)
  pub from : List ℕ
  pub cut : t ≡ ended before ++ from
  pub records : Records before rs
  pub faulty : Faulty from n
  pub at : offset ≡ length (ended before)
