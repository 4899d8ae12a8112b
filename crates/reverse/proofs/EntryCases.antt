-- A name placed and taken, by whether the first entry is the address's: these laws repeat the two definitions, and the wrong ones of must-fail/ change them with these.
use Prim.Native.Nat.{ℕ}
use mathlib.Core.Bool.{Bool, true, false, cond}
use mathlib.Core.Path.{◌≡◌, ap}
use mathlib.Core.List.{List, ◌∷◌}
use Rattle.base.specs.Bytes.{eq_bytes}
use Rattle.slots.specs.declared.Family.{Family}
use Rattle.reverse.specs.Entry.{ReverseEntry, is_at, entry_at, placed, taken}

module _ (f : Family) (x n : List ℕ) (r : ReverseEntry) (rs : List ReverseEntry) where
  pub placed_here : is_at f x r ≡ true → placed f x n (r ∷ rs) ≡ entry_at f x n ∷ rs
  unfolding placed
  placed_here e = ap (λ (b : Bool). cond b (entry_at f x n ∷ rs) (r ∷ placed f x n rs)) e

  pub placed_later : is_at f x r ≡ false → placed f x n (r ∷ rs) ≡ r ∷ placed f x n rs
  unfolding placed
  placed_later e = ap (λ (b : Bool). cond b (entry_at f x n ∷ rs) (r ∷ placed f x n rs)) e

  pub taken_here : is_at f x r ≡ true → taken f x n (r ∷ rs) ≡ cond (eq_bytes r.name n) rs (r ∷ rs)
  unfolding taken
  taken_here e = ap (λ (b : Bool). cond b (cond (eq_bytes r.name n) rs (r ∷ rs)) (r ∷ taken f x n rs)) e

  pub taken_later : is_at f x r ≡ false → taken f x n (r ∷ rs) ≡ r ∷ taken f x n rs
  unfolding taken
  taken_later e = ap (λ (b : Bool). cond b (cond (eq_bytes r.name n) rs (r ∷ rs)) (r ∷ taken f x n rs)) e
