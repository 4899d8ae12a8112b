-- The public theorem of `table_fault`. Assumes nothing.
use mathlib.Core.Path.{◌≡◌, sym, ◌∙◌}
use mathlib.Core.List.{List}
use Prim.Native.Nat.{ℕ}
use lib.ListN.{length}
use Rattle.grammar.specs.Listing.{ResourceRecord}
use Rattle.listing.specs.Giving.{Last, Gives}
use Rattle.listing.proofs.Theorems.{some_giving}
use Rattle.slots.specs.Sizes.{most_records}
use Rattle.table_fault.specs.Judging.{Judges}
use Rattle.table_fault.specs.declared.Judged.{Judged}
use Rattle.table_fault.proofs.OneLaws.{judges_one}

-- what `judge` promises of a listing determines the answer and all 192 bytes
pub one_judged : (t : List ℕ) (j k : Judged) → length j.slots ≡ most_records → length k.slots ≡ most_records
    → ((rs : List ResourceRecord) (l : Last) → Gives t 0 rs l → Judges rs l j) → ((rs : List ResourceRecord) (l : Last) → Gives t 0 rs l → Judges rs l k) → j ≡ k
one_judged t j k long also a b = let g = some_giving t 0 in judges_one g.0 g.1 j k (long ∙ sym also) (a g.0 g.1 g.2) (b g.0 g.1 g.2)
