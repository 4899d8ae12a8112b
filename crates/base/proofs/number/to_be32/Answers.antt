use native.Mathlib.Nat.{div-one}
use Rattle.base.specs.Bytes.{big_endian}
use Rattle.base.proofs.number.to_be32.Goals as goal

pub returns : goal.returns
unfolding big_endian
returns c = simp div-one
