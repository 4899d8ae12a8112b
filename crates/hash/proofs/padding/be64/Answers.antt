use Rattle.std.proofs.Common.{div-one, rules}
use Rattle.base.specs.Bytes.{big_endian}
use Rattle.hash.proofs.padding.be64.Goals as goal

pub returns : goal.returns
unfolding big_endian
returns c = simp div-one
