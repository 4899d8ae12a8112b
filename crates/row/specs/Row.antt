-- What reading a listing into a lent row promises. Document 01, "The listing's grammar", last paragraphs; "Refusal numbers" (docs/RULES.md, 6.5 and 2.1).
use Rattle.std.specs.Prelude.{ℕ, ◌+◌, ◌≤◌, false, ◌≡◌, List, ◌∷◌, ◌++◌, map, ltb, length, drop}
use Rattle.base.specs.declared.Answer.{Answer}
use Rattle.base.specs.declared.Answer.TheVariants.{Accepted, Refused}
use Rattle.grammar.specs.Listing.{ResourceRecord}
use Rattle.grammar.specs.Outcome.{Outcome, accepted, refused, Answered}
use Rattle.entry.specs.Held.{held}
use Rattle.entry.specs.declared.Record.{Record}
use Rattle.listing.specs.Reading.{limit, counted}
use Rattle.listing.specs.Giving.{end, Gives}
use Rattle.row.specs.Demand3.{Demand3}
use Rattle.row.specs.declared.Filling.{Filling}
use Rattle.row.specs.declared.Turn.{Turn}

-- what a row holds after a call: the records in turn from its first place on, and the places beyond as they were; on a refusal all as they were
abbrev pub placed : Outcome → List Record → List Record
placed (accepted rs) lent = map held rs ++ drop (length rs) lent
placed (refused n offset) lent = lent

-- the listing t was read into a row, which held the places lent and now holds the places handed; a was answered
pub record RowRead (t : List ℕ) (lent handed : List Record) (a : Answer) : Type 0 where
  pub demand3 : Demand3 limit t lent handed a
  -- and for every listing: the answer, refusals too, and every place, are those of what grammar says is answered to t and a row of so many places
  pub outcome : Outcome
  pub judged : Answered limit (length lent) t outcome
  pub answered : a ≡ counted outcome
  pub row : handed ≡ placed outcome lent

-- ---- how a row is filled, place by place

-- the state at the beginning, by what is to be answered: nothing is filled on a refusal
abbrev pub refusing : ℕ → ℕ → Filling
refusing n offset = record { answer = Refused n offset; at = 0; count = 0; total = 0; going = false }

abbrev pub beginning : Outcome → Filling
beginning (accepted rs) = record { answer = Accepted (length rs); at = 0; count = 0; total = length rs; going = ltb 0 (length rs) }
beginning (refused n offset) = refusing n offset

-- the filling of a row of so many places with the listing t begins with the state s: that of what grammar says is answered
unfoldable pub Begins : List ℕ → ℕ → Filling → Type 0
Begins t places s = (o : Outcome) × Answered limit places t o × (s ≡ beginning o)

-- from the state's offset on the listing t gives the record r, then rs and the end, and they are as many as there are places to fill
pub record Ahead (t : List ℕ) (s : Filling) (r : ResourceRecord) (rs : List ResourceRecord) : Type 0 where
  pub gives : Gives t s.at (r ∷ rs) end
  pub many : s.count + length (r ∷ rs) ≡ s.total

-- a record is ahead
unfoldable pub More : List ℕ → Filling → Type 0
More t s = (r : ResourceRecord) × (rs : List ResourceRecord) × Ahead t s r rs

-- a turn takes r: that is the place's record, and the state after it has rs ahead
pub record Takes (t : List ℕ) (s : Filling) (r : ResourceRecord) (rs : List ResourceRecord) (d : Turn) : Type 0 where
  pub taken : d.«record» ≡ held r
  pub gives : Gives t d.after.at rs end
  pub after : d.after ≡ record { answer = s.answer; at = d.after.at; count = s.count + 1; total = s.total; going = ltb (s.count + 1) s.total }

-- a turn takes the record that is ahead, whichever it is
unfoldable pub TakesNext : List ℕ → Filling → Turn → Type 0
TakesNext t s d = (r : ResourceRecord) (rs : List ResourceRecord) → Ahead t s r rs → Takes t s r rs d
