use mathlib.Core.Path.{refl}
use Rattle.base.specs.Answer.{Tells}
use Rattle.demands.proofs.AnswerLaws.{positive, numbered_in_row, told_c}
use Rattle.demands.proofs.TableLaws.{find_in_row}
use Rattle.demands.proofs.Theorems.{demand_1}
use borrow.Author.Rules.{rules}
use Rattle.demands.proofs.table_find.Goals as goal

pub returns : goal.returns
unfolding Tells positive
returns c =
    let e = c.vichrelka_table_find.ensures in
    told_c e.0 e.1 e.2 (numbered_in_row _ refl (find_in_row _ _ _ e.3)) (e.3, demand_1.find _ _ _ e.3)
