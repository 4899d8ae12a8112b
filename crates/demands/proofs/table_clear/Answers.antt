use mathlib.Core.Path.{refl}
use Rattle.base.specs.Answer.{Tells}
use Rattle.demands.proofs.AnswerLaws.{positive, numbered_in_row, told_c}
use Rattle.demands.proofs.TableLaws.{clear_in_row}
use Rattle.demands.proofs.Theorems.{demand_1, demand_2}
use borrow.Author.Rules.{rules}
use Rattle.demands.proofs.table_clear.Goals as goal

pub returns : goal.returns
unfolding Tells positive
returns c =
    let e = c.vichrelka_table_clear.ensures in
    let one = demand_1.clear _ _ _ _ e.3 in
    told_c e.0 e.1 e.2 (numbered_in_row _ refl (clear_in_row _ _ _ _ e.3)) (e.3, one.0, one.1, demand_2.clear _ _ _ _ e.3)
