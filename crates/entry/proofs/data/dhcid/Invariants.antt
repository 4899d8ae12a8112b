use Prim.Native.Nat.{◌-◌}
use mathlib.Core.Path.{◌≡◌}
use native.Mathlib.Omega.{arith}
use lib.ListN.{length}
use borrow.Author.Rules.{rules}
use Rattle.entry.proofs.NextLaws.{word_is, no_word}
use Rattle.entry.proofs.DataLaws.{WordsRead, none_read_yet, one_more, all_read}
use Rattle.entry.proofs.data.dhcid.Given as goal

abbrev pub invariant-loop-start : goal.invariant-loop-start
invariant-loop-start l = WordsRead l.text l.at l.inside l.words l.i l.within

abbrev pub decreases-loop-start : goal.decreases-loop-start
decreases-loop-start l = length l.text - l.i
