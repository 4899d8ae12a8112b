use Prim.Native.Nat.{ℕ, ◌%◌}
use mathlib.Core.Path.{◌≡◌}
use mathlib.Core.List.{List, ◌++◌}
use lib.ListN.{length}
use Rattle.dhcid_text.specs.DhcidReading.{Text16}
use Rattle.dhcid_text.proofs.hexadecimal_digits.Given as goal

abbrev pub invariant-loop-pair : goal.invariant-loop-pair
invariant-loop-pair l =
    record {
      size : l.pair-iterator.size ≡ 2;
      even : length l.pair-iterator.rest.now % 2 ≡ 0;
      read : List ℕ;
      parts : read ++ l.pair-iterator.rest.now ≡ l.word;
      state : (ds : List ℕ) → Text16 ds l.initial.state → Text16 (ds ++ read) l.state;
    }
