use Rattle.std.proofs.Common.{rules}
use Rattle.octets.proofs.ZeroLaws.{zeros_by_bits}
use Rattle.octets.proofs.are_zeros_at_once.Goals as goal

pub returns : goal.returns
returns c = zeros_by_bits _ _ (search rules)
