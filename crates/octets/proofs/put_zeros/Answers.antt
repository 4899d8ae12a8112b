use Rattle.std.proofs.Common.{ℕ, ◌+◌, ◌-◌, ◌≡◌, ◌∙◌, sym, ap, replicate, append_assoc, arith}
use Rattle.std.proofs.lemmas.List.{take_all, length-replicate}
use Rattle.std.proofs.Math.Seq.{drop-drop}
use Rattle.base.specs.Bytes.{overlay}
use Rattle.octets.proofs.put_zeros.Goals as goal

pub returns : goal.returns
unfolding overlay
returns c =
    let a = c.args in
    let d = c.loop-b.b-items in
    let i : c.loop-b.b-index ≡ a.size = omega arith in
    let zeros : d ≡ replicate a.size 0 = sym (take_all c.loop-b.b-index d (omega arith)) ∙ c.loop-b.invariant.1 ∙ ap (λ (n : ℕ). replicate n 0) i in
    let size : a.at + a.size - a.at ≡ a.size = omega arith in
    let long = length-replicate {A = ℕ} a.size 0 in
    rw (zeros, size, long, drop-drop) (simp append_assoc)
