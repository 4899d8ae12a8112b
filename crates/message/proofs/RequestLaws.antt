-- Laws of specs/Request.antt. Assumes nothing.
use Prim.Native.Nat.{ℕ, ◌+◌}
use mathlib.Core.Path.{◌≡◌}
use native.Mathlib.Omega.{arith}
use Rattle.message.specs.Request.{refused_request}

-- a refusal is not accepted
pub refused_not : (n : ℕ) → (refused_request (n + 1)).refusal ≡ 0 → ⊥
unfolding refused_request
refused_not n e = omega (arith, e)
