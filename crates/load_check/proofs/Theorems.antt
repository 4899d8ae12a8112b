-- The public theorems of `load_check`: what its promises say determines the answers. The number of names is an equation already. Assumes nothing.
use mathlib.Core.Path.{◌≡◌}
use mathlib.Core.List.{List}
use Prim.Native.Nat.{ℕ}
use native.Mathlib.Omega.{arith}
use lib.ListN.{replicate, length-replicate}
use Rattle.base.specs.declared.Answer.{Answer}
use Rattle.listing.specs.Reading.{limit}
use Rattle.slots.specs.Sizes.{most_names, table_size}
use Rattle.records.proofs.LoadingLaws.{one_loading}
use Rattle.load_check.specs.Loading.{LoadAnswers, FirstRepeat}
use Rattle.load_check.specs.declared.Repeat.{Repeat}
use Rattle.load_check.proofs.OneLaws.{repeat_one}

-- a listing has one verdict
pub one_verdict : (t : List ℕ) (a b : Answer) → LoadAnswers t a → LoadAnswers t b → a ≡ b
unfolding LoadAnswers
one_verdict t a b h k =
    let area : List ℕ = replicate table_size 0 in
    let x = h area (omega (arith, length-replicate {A = ℕ} table_size 0)) in
    let y = k area (omega (arith, length-replicate {A = ℕ} table_size 0)) in
    (one_loading limit most_names t area x.1 y.1).0

-- and one first record that has an earlier one of its owner and type, with one such
pub one_repeat : (t : List ℕ) (r s : Repeat) → FirstRepeat t r → FirstRepeat t s → r ≡ s
one_repeat t r s f g = repeat_one f g
