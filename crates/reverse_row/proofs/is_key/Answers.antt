use borrow.Author.Rules.{rules}
use borrow.Author.Tests.{eqb-true, eqb-false}
use Rattle.base.proofs.Tests.{decides_as}
use Rattle.reverse.proofs.SlotLaws.{key_4, key_6, key_first, key_rest}
use Rattle.reverse_row.proofs.is_key.Goals as goal

pub returns-then-key-eq-V4 : goal.returns-then-key-eq-V4
returns-then-key-eq-V4 c =
    let key = c.args.key.now in
    decides_as (key_4 key c.requires c.if-key-eq-V4.true) (λ h. key_rest key h c.if-key-eq-V4.true) c.are_zeros_at_once.ensures

pub returns : goal.returns
returns c =
    let key = c.args.key.now in
    record { if_true = λ six. key_6 key c.requires (eqb-true _ _ six); if_false = λ differs h. eqb-false _ _ differs (key_first key h c.if-key-eq-V4.false) }
