use Prim.Native.Nat.{◌+◌, ◌≤◌}
use mathlib.Core.Path.{◌≡◌}
use lib.ListN.{length, drop}
use Rattle.std.specs.List.{prefix_len}
use Rattle.grammar.specs.Listing.{is_word_byte}
use Rattle.words.proofs.word_end.Given as goal

-- the run from `end` on ends where that from `at` on does
abbrev pub invariant-loop-chunk : goal.invariant-loop-chunk
invariant-loop-chunk l =
    record {
      size : l.chunk-iterator.size ≡ 32;
      rest : l.chunk-iterator.rest.now ≡ drop l.end l.text;
      within : l.end ≤ length l.text;
      same : l.at + prefix_len is_word_byte (drop l.at l.text) ≡ l.end + prefix_len is_word_byte (drop l.end l.text);
    }
