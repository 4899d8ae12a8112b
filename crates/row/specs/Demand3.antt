-- The customer's third demand, of the call that reads a whole listing into a lent row: each of its sentences beside the field that states it. It cites what a
-- listing spells (grammar, specs/Listing.antt), which bytes a record has in a row (entry, specs/Held.antt: a place holds one record, the theorem held-one), what
-- an answer says (base, specs/Answer.antt), and the row before and after the call; nothing else.
use Rattle.std.specs.Prelude.{ℕ, ◌≤◌, ◌≡◌, ◌↔◌, List, map, length, take}
use Rattle.base.specs.Answer.{value, IsAccepted}
use Rattle.base.specs.declared.Answer.{Answer}
use Rattle.grammar.specs.Listing.{ResourceRecord, Spells}
use Rattle.entry.specs.Held.{held}
use Rattle.entry.specs.declared.Record.{Record}

-- The listing t was read into a row that held the places lent and now holds the places handed; a was answered. The limit is the customer's 65,536 bytes
-- (demands, specs/Demand3.antt).
pub record Demand3 (limit : ℕ) (t : List ℕ) (lent handed : List Record) (a : Answer) : Type 0 where
  -- 1. "For every listing of at most 65,536 bytes and every row that we lend: the listing is accepted exactly when there is a list of records that it spells by
  -- the grammar, with no more records than the row has places."
  pub accepted_exactly : length t ≤ limit → IsAccepted a ↔ ((rs : List ResourceRecord) × Spells t rs × (length rs ≤ length lent))
  -- 2. "The grammar is written down without the reader." No field can say it of a definition; a test reads what grammar's specs/Listing.antt and all that it
  -- rests on cite (tests/imports.sh): no proof, no code, no function that reads.
  -- 3. "Any two lists that one listing spells are the same list."
  pub one_list : (rs qs : List ResourceRecord) → Spells t rs → Spells t qs → rs ≡ qs
  -- 4. "What an accepted listing hands us is that list, whole and in order: the count is the list's length, ..
  pub count : (rs : List ResourceRecord) → IsAccepted a → Spells t rs → value a ≡ length rs
  -- .. and the row's places from the first on hold its records in turn."
  pub places : (rs : List ResourceRecord) → IsAccepted a → Spells t rs → take (length rs) handed ≡ map held rs
