use Rattle.std.proofs.Common.{◌∙◌, rules}
use Rattle.hash.proofs.Theorems.{begun, taken, finished}
use Rattle.hash.proofs.digest_of.Goals as goal

pub returns : goal.returns
returns c =
    c.digest.ensures
    ∙ finished _ _ _ (taken _ _ _ _ (begun _ c.begin.ensures) c.take.ensures) c.finish.ensures
