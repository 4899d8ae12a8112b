use Prim.Native.Nat.{ℕ, ◌≤◌}
use mathlib.Core.Bool.{true, false}
use mathlib.Core.Path.{◌≡◌, sym, ap}
use native.Mathlib.Omega.{arith}
use borrow.Author.Tests.{ne_eqb}
use Rattle.base.proofs.Tests.{by_ltb}
use Rattle.message6.specs.Message6.{is_request_type}
use Rattle.message6.proofs.is_request_type.Goals as goal

no-request : (k : ℕ) → (k ≡ 3 → ⊥) → (k ≡ 5 → ⊥) → (k ≡ 6 → ⊥) → false ≡ is_request_type k
unfolding is_request_type
no-request k a b c = sym (rw (ne_eqb k 3 a, ne_eqb k 5 b, ne_eqb k 6 c))

renew-or-rebind : (k : ℕ) → 5 ≤ k → k ≤ 6 → true ≡ is_request_type k
unfolding is_request_type
renew-or-rebind k low high =
    by_ltb k 6 (λ h. let e : k ≡ 5 = omega arith in sym (ap is_request_type e)) (λ h. let e : k ≡ 6 = omega arith in sym (ap is_request_type e))

pub returns-in_default : goal.returns-in_default
returns-in_default c = no-request c.args.kind (λ e. omega (arith, e)) (λ e. omega (arith, e)) (λ e. omega (arith, e))

pub returns-in_default-2 : goal.returns-in_default-2
returns-in_default-2 c = no-request c.args.kind (λ e. omega (arith, e)) (λ e. omega (arith, e)) (λ e. omega (arith, e))

pub returns-in-3 : goal.returns-in-3
unfolding is_request_type
returns-in-3 c = sym (ap is_request_type c.in-3.is)

pub returns-in-3-2 : goal.returns-in-3-2
returns-in-3-2 c = renew-or-rebind c.args.kind (omega arith) (omega arith)
