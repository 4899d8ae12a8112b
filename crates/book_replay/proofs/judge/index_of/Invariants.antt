use Prim.Native.Nat.{ℕ, ◌-◌}
use mathlib.Core.Path.{◌≡◌, sym, ◌∙◌}
use mathlib.Core.List.{List}
use native.Mathlib.Omega.{arith}
use borrow.Author.Rules.{rules}
use Rattle.slots.specs.Form.{TableEntry}
use Rattle.slots.proofs.NameLaws.{Searched, searched_none}
use Rattle.book_replay.specs.Judging.{Kept, head_of}
use Rattle.book_replay.proofs.HeadLaws.{kept_within, found_here, found_later, found_nowhere}
use Rattle.book_replay.proofs.judge.index_of.Given as goal

abbrev pub invariant-loop-j : goal.invariant-loop-j
invariant-loop-j l = (t : List TableEntry) → Kept l.book l.i l.numbers l.used t → (n : List ℕ) → l.head ≡ head_of n → Searched n t l.j

abbrev pub decreases-loop-j : goal.decreases-loop-j
decreases-loop-j l = l.used - l.j
