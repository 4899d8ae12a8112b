use borrow.Author.Rules.{rules}
use Rattle.load_check.proofs.VerdictLaws.{verdict_is}
use Rattle.load_check.proofs.verdict.Goals as goal

pub returns : goal.returns
returns c = let k = c.judge-judged in verdict_is _ k.result k.ensures
