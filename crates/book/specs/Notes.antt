-- What the blocks of a book of names say, and the entries of the table that they replay to. Document 02, K5 (docs/RULES.md, 11.2). Nothing here is
-- about bytes.
use Rattle.std.specs.Prelude.{ℕ, List, [], ◌∷◌, ◌++◌}
use Rattle.std.proofs.Math.Option.{Option, none, some}
use Rattle.slots.specs.Form.{TableEntry}
use Rattle.table.specs.Steps.{find, changed, without}

-- what one block says: that name is gone (kind 0), or stands so (kind 1)
pub data Note : Type 0 where
  gone : List ℕ → Note
  stands : TableEntry → Note

-- ---- replaying

-- an entry that was said to stand, by what stood under its name: a new name stands last, one that stood keeps its place
abbrev pub standing_by : Option TableEntry → TableEntry → List TableEntry → List TableEntry
standing_by none e t = t ++ e ∷ []
standing_by (some d) e t = changed e.name (λ _. e) t

-- the entries t after one note more
unfoldable pub noted : Note → List TableEntry → List TableEntry
noted (Note.gone n) t = without n t
noted (Note.stands e) t = standing_by (find e.name t) e t

-- and after these notes, in order
unfoldable pub after_from : List Note → List TableEntry → List TableEntry
after_from [] t = t
after_from (c ∷ cs) t = after_from cs (noted c t)

-- the entries that the notes of a book give: a book begins with the empty table
abbrev pub after : List Note → List TableEntry
after cs = after_from cs []

-- ---- the note that is written for a name from a table: as it stands there, or gone, whether or not it ever stood

abbrev pub note_by : List ℕ → Option TableEntry → Note
note_by n none = Note.gone n
note_by n (some e) = Note.stands e

unfoldable pub note_of : List ℕ → List TableEntry → Note
note_of n t = note_by n (find n t)

-- ---- tidying: one note for each entry, in order

unfoldable pub tidy_notes : List TableEntry → List Note
tidy_notes [] = []
tidy_notes (e ∷ t) = Note.stands e ∷ tidy_notes t
