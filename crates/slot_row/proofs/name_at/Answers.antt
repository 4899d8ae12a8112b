use Prim.Native.Nat.{ℕ, ◌+◌, ◌-◌, ◌*◌}
use mathlib.Core.Path.{◌≡◌, ap}
use native.Mathlib.Omega.{arith}
use lib.ListN.{take, drop, get_or}
use Rattle.slots.specs.Promise.{name_at}
use Rattle.slots.specs.Sizes.{slot_size}
use Rattle.slot_row.proofs.name_at.Goals as goal

pub returns : goal.returns
unfolding name_at
returns c =
    let a = c.args in
    let at = slot_size * a.i in
    let v = get_or a.table.now at 0 in
    let size : at + 1 + v - (at + 1) ≡ v = omega arith in
    ap (λ (n : ℕ). take n (drop (at + 1) a.table.now)) size
