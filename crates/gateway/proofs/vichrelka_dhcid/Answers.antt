use Rattle.base.specs.Answer.{Tells}
use Rattle.dhcid.proofs.Theorems.{puts_writes}
use borrow.Author.Rules.{rules}
use Rattle.gateway.proofs.vichrelka_dhcid.Goals as goal

pub returns : goal.returns
unfolding Tells
returns c =
    let put = c.put_dhcid in
    (put.result, c.for_c.ensures.told, c.for_c.ensures.small, puts_writes _ _ _ _ _ _ _ put.ensures)
