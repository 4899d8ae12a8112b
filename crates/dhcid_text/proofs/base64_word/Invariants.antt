use Prim.Native.Nat.{ℕ}
use mathlib.Core.Path.{◌≡◌}
use mathlib.Core.List.{List, ◌++◌}
use lib.ListN.{length, take}
use Rattle.dhcid_text.specs.DhcidReading.{Text64, with_bytes}
use Rattle.dhcid_text.proofs.base64_word.Given as goal

abbrev pub invariant-loop-b : goal.invariant-loop-b
invariant-loop-b l =
    (length l.bytes ≡ 35)
    × ((cs : List ℕ) → Text64 cs (with_bytes l.initial.sextets l.initial.bytes) → Text64 (cs ++ take l.b-index l.b-items) (with_bytes l.sextets l.bytes))
