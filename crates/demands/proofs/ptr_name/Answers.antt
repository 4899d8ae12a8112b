use mathlib.Core.Path.{refl}
use Rattle.base.specs.Answer.{Tells}
use Rattle.demands.proofs.AnswerLaws.{positive, numbered_in_row, told_c}
use Rattle.demands.proofs.LeaseLaws.{ptr_in_row}
use Rattle.demands.proofs.Theorems.{demand_1}
use borrow.Author.Rules.{rules}
use Rattle.demands.proofs.ptr_name.Goals as goal

pub returns : goal.returns
unfolding Tells positive
returns c =
    let e = c.vichrelka_ptr_name.ensures in
    let one = demand_1.ptr _ _ _ _ _ e.3 in
    told_c e.0 e.1 e.2 (numbered_in_row _ refl (ptr_in_row _ _ _ _ _ e.3)) (e.3, one.0, one.1)
