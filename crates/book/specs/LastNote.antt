-- The last note about a name. A name stands exactly if that note says so (proofs/Theorems.antt, stands-as-last-said): what a book that no table has room
-- for is judged by.
use Rattle.std.specs.Prelude.{ℕ, cond, List, [], ◌∷◌}
use Rattle.std.proofs.Math.Option.{Option, none, some}
use Rattle.base.specs.Bytes.{eq_bytes}
use Rattle.slots.specs.Form.{TableEntry}
use Rattle.book.specs.Notes.{Note}

-- the name that a note is about
abbrev pub about : Note → List ℕ
about (Note.gone n) = n
about (Note.stands e) = e.name

-- what it leaves under that name
abbrev pub said : Note → Option TableEntry
said (Note.gone n) = none
said (Note.stands e) = some e

-- what the last note about n says; o where there is none
unfoldable pub last_said : List ℕ → Option TableEntry → List Note → Option TableEntry
last_said n o [] = o
last_said n o (c ∷ cs) = last_said n (cond (eq_bytes (about c) n) (said c) o) cs
