use Rattle.std.proofs.Common.{◌≡◌, ℕ, List, length, take, ap, ◌∙◌, subst, arith, length-take, rules}
use Rattle.hash.specs.Sha256.{zero_bytes}
use Rattle.hash.specs.State.{Takes}
use Rattle.hash.proofs.Sha256.finish.Goals as goal

pub slice_bounds-bytes-end : goal.slice_bounds-bytes-end
unfolding zero_bytes
slice_bounds-bytes-end c =
    let e : length c.padding_bytes-bytes.result ≡ 72 = search rules in
    omega arith

pub slice_bounds-take-end : goal.slice_bounds-take-end
unfolding zero_bytes
slice_bounds-take-end c =
    let e : length c.padding_bytes-bytes.result ≡ 72 = search rules in
    simp length-take (omega arith)

pub returns : goal.returns
returns c =
    let a = c.args in
    subst (λ (x : List ℕ). Takes a.self x c.take.result)
    (ap (λ (n : ℕ). take n c.padding_bytes-bytes.result) c.padding_length-n.ensures ∙ c.padding_bytes-bytes.ensures)
    c.take.ensures
