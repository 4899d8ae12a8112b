use Prim.Native.Nat.{ℕ, ◌+◌, ◌-◌}
use mathlib.Core.Path.{◌≡◌, refl, ap}
use native.Mathlib.Omega.{arith}
use lib.ListN.{take, drop}
use Rattle.message.specs.Request.{bytes_of}
use Rattle.dhcid.proofs.part_of.Goals as goal

pub returns : goal.returns
unfolding bytes_of
returns c =
    let p = c.args.part in
    let long : p.start + p.len - p.start ≡ p.len = omega arith in
    record { bytes = ap (λ (n : ℕ). take n (drop p.start c.args.bytes.now)) long; uncopied = refl }
