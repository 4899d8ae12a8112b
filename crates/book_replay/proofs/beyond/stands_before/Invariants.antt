use Prim.Native.Nat.{ℕ, ◌*◌, ◌≤◌}
use mathlib.Core.Path.{◌≡◌, sym, ◌∙◌}
use mathlib.Core.List.{List}
use mathlib.Core.Option.{none}
use native.Mathlib.Omega.{arith}
use lib.ListN.{take}
use Rattle.book.specs.Notes.{Note}
use Rattle.book.specs.LastNote.{last_said}
use Rattle.book.specs.Books.{Right}
use Rattle.book_replay.specs.Judging.{head_of}
use Rattle.book_replay.proofs.SoughtLaws.{sought_none, sought_end, down_later, down_here, down_within}
use Rattle.book_replay.proofs.beyond.stands_before.Given as goal

abbrev pub invariant-loop-j : goal.invariant-loop-j
invariant-loop-j l = (l.j ≤ l.i) × ((cs : List Note) → Right (take (512 * l.i) l.book) cs → (n : List ℕ) → l.head ≡ head_of n → last_said n none cs ≡ last_said n none (take l.j cs))

abbrev pub decreases-loop-j : goal.decreases-loop-j
decreases-loop-j l = l.j
