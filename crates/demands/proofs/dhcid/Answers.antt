use Rattle.base.specs.Answer.{Tells}
use Rattle.demands.proofs.AnswerLaws.{told_c}
use Rattle.demands.proofs.TellLaws.{dhcid_numbered}
use Rattle.demands.proofs.Theorems.{demand_1, demand_2}
use borrow.Author.Rules.{rules}
use Rattle.demands.proofs.dhcid.Goals as goal

pub returns : goal.returns
unfolding Tells
returns c =
    let e = c.vichrelka_dhcid.ensures in
    let one = demand_1.dhcid _ _ _ _ _ _ _ e.3 in
    told_c e.0 e.1 e.2 (dhcid_numbered _ _ _ _ _ _ _ e.3) (e.3, one.0, one.1, demand_2.dhcid _ _ _ _ _ _ _ e.3)
