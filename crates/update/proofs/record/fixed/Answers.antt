use native.Mathlib.Nat.{div-one}
use Rattle.base.specs.Bytes.{big_endian}
use Rattle.update.specs.Message.{fixed_bytes}
use borrow.Author.Rules.{rules}
use Rattle.update.proofs.record.fixed.Goals as goal

pub returns : goal.returns
unfolding fixed_bytes big_endian
returns c = simp div-one
