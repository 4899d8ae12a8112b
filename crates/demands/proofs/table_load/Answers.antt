use Rattle.base.specs.Answer.{Tells}
use Rattle.demands.proofs.AnswerLaws.{told_c}
use Rattle.demands.proofs.TellLaws.{load_numbered}
use Rattle.demands.proofs.Theorems.{demand_1}
use borrow.Author.Rules.{rules}
use Rattle.demands.proofs.table_load.Goals as goal

pub returns : goal.returns
unfolding Tells
returns c =
    let e = c.vichrelka_table_load.ensures in
    let one = demand_1.load _ _ _ _ e.3 in
    told_c e.0 e.1 e.2 (load_numbered _ _ _ _ e.3) (e.3, one.0, one.1)
