-- What the functions of the program promise each other: the buffer gets the lines of the records of a right listing, whole and in order. Of the bytes that go
-- to C's write no contract can speak.
use Rattle.std.specs.Prelude.{ℕ, ◌+◌, ◌≤◌, ◌<◌, ◌≡◌, List, [], ◌∷◌, ◌++◌, length}
use Rattle.base.specs.Bytes.{overlay}
use Rattle.grammar.specs.Listing.{ResourceRecord}
use Rattle.writer.specs.Line.{line, lines}
use Rattle.listing.specs.Giving.{end, Gives}
use Rattle.listing_check.specs.declared.Batch.{Batch}

-- no line has more bytes (writer, proofs/Theorems.antt, longest-line)
abbrev pub longest_line : ℕ
longest_line = 310

-- the text t can be printed from the offset at on: it is within the limit, and spells records there, or none
abbrev pub Printable : List ℕ → ℕ → Type 0
Printable t at = (rs : List ResourceRecord) × Gives t at rs end

-- the line of the record r was put into out from the index used on, up to `to`, and nothing else changed
pub record LinePut (r : ResourceRecord) (out : List ℕ) (used : ℕ) (out' : List ℕ) (to : ℕ) : Type 0 where
  pub bytes : out' ≡ overlay out used (line r)
  pub ends : to ≡ used + length (line r)
  pub fits : to ≤ length out

-- from the offset at on: the line of the record that stands next was put, and the text goes on after it; or there is none left, and nothing was put
pub data NextPut (t : List ℕ) (at : ℕ) (out : List ℕ) (used : ℕ) (out' : List ℕ) (b : Batch) : Type 0 where
  put : (r : ResourceRecord) (rs : List ResourceRecord) → Gives t at (r ∷ rs) end → LinePut r out used out' b.used
      → at < b.next → Gives t b.next rs end → NextPut t at out used out' b
  none : Gives t at [] end → out' ≡ out → b.used ≡ used → b.next ≡ length t → NextPut t at out used out' b

-- of the records from the offset at on the lines of those in front were put, whole and in order, from the beginning of out on, and nothing else changed; the
-- text goes on with the others
pub record LinesPut (t : List ℕ) (at : ℕ) (out out' : List ℕ) (b : Batch) : Type 0 where
  pub taken : List ResourceRecord
  pub others : List ResourceRecord
  pub records : Gives t at (taken ++ others) end
  pub bytes : out' ≡ overlay out 0 (lines taken)
  pub ends : b.used ≡ length (lines taken)
  pub fits : b.used ≤ length out
  pub goes_on : Gives t b.next others end

-- and others are left only where the longest line has no room; and the text goes forward
pub record BatchPut (t : List ℕ) (at : ℕ) (out out' : List ℕ) (b : Batch) : Type 0 where
  pub front : LinesPut t at out out' b
  pub full : (front.others ≡ [] → ⊥) → length out < b.used + longest_line
  pub on : at < length t → at < b.next
