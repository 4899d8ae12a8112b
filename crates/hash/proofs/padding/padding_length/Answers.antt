use borrow.Author.Rules.{rules}
use Rattle.hash.specs.Sha256.{zero_bytes}
use Rattle.hash.proofs.padding.padding_length.Goals as goal

pub returns : goal.returns
unfolding zero_bytes
returns c = search rules
