use Rattle.base.specs.Answer.{Tells}
use Rattle.demands.proofs.AnswerLaws.{told_c}
use Rattle.demands.proofs.RequestLaws.{name_taken_apart}
use Rattle.demands.proofs.TellLaws.{name_numbered}
use Rattle.demands.proofs.Theorems.{demand_1}
use borrow.Author.Rules.{rules}
use Rattle.demands.proofs.name.Goals as goal

pub returns : goal.returns
unfolding Tells
returns c =
    let e = c.vichrelka_name.ensures in
    told_c e.0 e.1 e.2 (name_numbered _ _ _ _ _ e.3) (e.3, demand_1.name _ _ _ _ _ e.3, name_taken_apart _ _ _ _ _ e.3)
