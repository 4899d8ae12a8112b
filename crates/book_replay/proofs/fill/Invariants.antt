use Prim.Native.Nat.{◌+◌, ◌*◌, ◌-◌, ◌≤◌}
use mathlib.Core.Path.{ap, ◌∙◌}
use lib.ListN.{length, get_or, length-take, length-drop}
use Rattle.base.specs.Bytes.{overlay}
use native.Mathlib.Omega.{arith}
use borrow.Author.Rules.{rules}
use Rattle.book_replay.proofs.WrittenLaws.{Written, slot_of, length_slot_of, piece_within, slot_cut, written_none, written_more, filled}
use Rattle.book_replay.proofs.fill.Given as goal

abbrev pub invariant-loop-j : goal.invariant-loop-j
invariant-loop-j l = Written slot_of l.book l.numbers l.used l.initial.table l.table l.j

abbrev pub decreases-loop-j : goal.decreases-loop-j
decreases-loop-j l = l.used - l.j
