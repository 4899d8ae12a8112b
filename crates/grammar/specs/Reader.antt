-- What a text comes to, and what a call answers, found by functions. They find what Listing.antt, Faults.antt and Outcome.antt say, and every text comes
-- to something (proofs/ReaderLaws.antt). A reader of the grammar need not know them: no definition of meaning cites them; the promises of the crates that
-- read do.
use Rattle.std.specs.Prelude.{ℕ, zero, suc, ◌+◌, ◌-◌, cond, List, [], ◌∷◌, leb, length}
use Rattle.base.specs.Refusal.{listing_long, entry_shape, row_short}
use Rattle.grammar.specs.Listing.{is_word_byte, begins, outside, ResourceRecord}
use Rattle.grammar.specs.Outcome.{Outcome, accepted, refused}
use Rattle.grammar.specs.Scan.{plain, Ending, at_end, at_line, at_fault, scan}
use Rattle.grammar.specs.Content.{Content, nothing, one, fault, content_of}

-- the records of the whole text; or those before the first faulty entry, its number and its offset
pub data Verdict : Type 0 where
  right : List ResourceRecord → Verdict
  wrong : List ResourceRecord → ℕ → ℕ → Verdict

-- with a record before
abbrev pub after : ResourceRecord → Verdict → Verdict
after r (right rs) = right (r ∷ rs)
after r (wrong rs n p) = wrong (r ∷ rs) n p

-- with so many bytes before
abbrev pub shifted : ℕ → Verdict → Verdict
shifted m (right rs) = right rs
shifted m (wrong rs n p) = wrong rs n (m + p)

-- of a text that is one entry
abbrev pub alone : Content → Verdict
alone nothing = right []
alone (one r) = right (r ∷ [])
alone (fault n) = wrong [] n 0

-- of an entry, which is m bytes with the 10 that ends it, and of the text after it
abbrev pub followed : Content → ℕ → Verdict → Verdict
followed nothing m v = shifted m v
followed (one r) m v = after r (shifted m v)
followed (fault n) m v = wrong [] n 0

abbrev pub by_ending : (List ℕ → Verdict) → List ℕ → Content → Ending → Verdict
by_ending rest t c at_end = alone c
by_ending rest t c (at_line u) = followed c (length t - length u) (rest u)
by_ending rest t c at_fault = wrong [] entry_shape 0

-- of the first n entries at most; a text has no more entries than bytes, and one
unfoldable pub read_up_to : ℕ → List ℕ → Verdict
read_up_to zero t = right []
read_up_to (suc n) t = let l = scan plain outside t in by_ending (read_up_to n) t (content_of (begins is_word_byte t) l.words) l.ending

unfoldable pub read : List ℕ → Verdict
read t = read_up_to (suc (length t)) t

-- ---- what a call answers

abbrev pub outcome : Verdict → Outcome
outcome (right rs) = accepted rs
outcome (wrong rs n p) = refused n p

unfoldable pub check : ℕ → List ℕ → Outcome
check limit t = cond (leb (length t) limit) (outcome (read t)) (refused listing_long 0)

abbrev pub in_places : ℕ → Outcome → Outcome
in_places places (accepted rs) = cond (leb (length rs) places) (accepted rs) (refused row_short 0)
in_places places (refused n p) = refused n p

unfoldable pub answer : ℕ → ℕ → List ℕ → Outcome
answer limit places t = in_places places (check limit t)
