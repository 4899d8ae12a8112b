use Rattle.std.proofs.Common.{◌≡◌, ℕ, ◌+◌, ◌-◌, ◌∷◌, length, take, replicate, ap, ◌∙◌, arith, rules}
use Rattle.base.specs.Bytes.{overlay}
use Rattle.hash.specs.Sha256.{zero_bytes}
use Rattle.hash.proofs.PaddingLaws.{padding_written}
use Rattle.hash.proofs.padding.padding_bytes.Goals as goal

pub put-requires : goal.put-requires
unfolding zero_bytes
put-requires c =
    let eight : length c.be64-bits.result ≡ 8 = search rules in
    omega arith

pub returns : goal.returns
returns c =
    let a = c.args in
    let b = c.be64-bits in
    let e : c.padding_length.result - 8 ≡ 1 + zero_bytes a.len = omega (arith, c.padding_length.ensures) in
    ap (take (9 + zero_bytes a.len)) (c.put.ensures ∙ ap (λ (at : ℕ). overlay (0x80 ∷ replicate 71 0) at b.result) e)
    ∙ padding_written a.len 71 b.result b.ensures (search rules) (omega arith)
