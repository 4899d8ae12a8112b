-- An answer says one of the two. Assumes nothing.
use Prim.Native.Nat.{ℕ}
use mathlib.Core.Bool.{Bool, true, false, true≢false}
use mathlib.Core.Path.{◌≡◌, ap}
use Rattle.base.specs.declared.Answer.{Answer}
use Rattle.base.specs.declared.Answer.TheVariants.{Accepted, Refused}

is_accepted : Answer → Bool
is_accepted (Accepted v) = true
is_accepted (Refused n p) = false

pub accepted≢refused : {v n p : ℕ} → Accepted v ≡ Refused n p → ⊥
unfolding is_accepted
accepted≢refused e = true≢false (ap is_accepted e)
