use Rattle.base.specs.Answer.{Tells}
use Rattle.demands.proofs.AnswerLaws.{told_c}
use Rattle.demands.proofs.TellLaws.{check_numbered}
use Rattle.demands.proofs.Theorems.{demand_1}
use borrow.Author.Rules.{rules}
use Rattle.demands.proofs.listing_check.Goals as goal

pub returns : goal.returns
unfolding Tells
returns c =
    let e = c.vichrelka_listing_check.ensures in
    told_c e.0 e.1 e.2 (check_numbered _ _ e.3) (e.3, demand_1.listing _ _ e.3)
