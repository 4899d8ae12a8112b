use Prim.Native.Nat.{◌+◌, ◌*◌, ◌-◌, ◌≤◌}
use mathlib.Core.Path.{◌∙◌}
use lib.ListN.{length, get_or, length-take, length-drop}
use native.Mathlib.Omega.{arith}
use borrow.Author.Rules.{rules}
use Rattle.book_replay.proofs.WrittenLaws.{Written, block_of, length_block_of, piece_within, slot_cut, slot_kept, block_put, written_none, written_more, tidied_all}
use Rattle.book_replay.proofs.put_blocks.Given as goal

abbrev pub invariant-loop-j : goal.invariant-loop-j
invariant-loop-j l = Written block_of l.book l.numbers l.used l.initial.out l.out l.j

abbrev pub decreases-loop-j : goal.decreases-loop-j
decreases-loop-j l = l.used - l.j
