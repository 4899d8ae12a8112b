-- What a call that reads a listing answers. Document 01, "The listing's grammar", paragraphs 4 and 5 (docs/RULES.md, 6.4 and 6.5): 17 comes before
-- every other refusal and 25 after, and the place of both is 0. The limit, 65,536 bytes there, is a parameter.
use Rattle.std.specs.Prelude.{ℕ, ◌≤◌, ◌<◌, List, length}
use Rattle.base.specs.Refusal.{listing_long, row_short}
use Rattle.grammar.specs.Listing.{ResourceRecord, Spells}
use Rattle.grammar.specs.Faults.{Refused}

-- the records; or a refusal's number and its offset, document 01's place (docs/RULES.md, 1.3)
pub data Outcome : Type 0 where
  accepted : List ResourceRecord → Outcome
  refused : ℕ → ℕ → Outcome

-- of the text t alone: 17 over the limit, then the first faulty entry, else the list that t spells
pub data Checked (limit : ℕ) (t : List ℕ) : Outcome → Type 0 where
  too_long : limit < length t → Checked limit t (refused listing_long 0)
  faulty : {rs : List ResourceRecord} {n offset : ℕ} → length t ≤ limit → Refused t rs n offset → Checked limit t (refused n offset)
  whole : {rs : List ResourceRecord} → length t ≤ limit → Spells t rs → Checked limit t (accepted rs)

-- of the text t and a row of so many record places: as of the text alone; but 25 where it would be accepted and the row has fewer places than records
pub data Answered (limit places : ℕ) (t : List ℕ) : Outcome → Type 0 where
  refused_first : {n offset : ℕ} → Checked limit t (refused n offset) → Answered limit places t (refused n offset)
  short_row : {rs : List ResourceRecord} → Checked limit t (accepted rs) → places < length rs → Answered limit places t (refused row_short 0)
  in_row : {rs : List ResourceRecord} → Checked limit t (accepted rs) → length rs ≤ places → Answered limit places t (accepted rs)
