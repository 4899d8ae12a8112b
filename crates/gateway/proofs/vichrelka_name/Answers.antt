use Rattle.base.specs.Answer.{Tells}
use Rattle.dhcid.specs.Chosen.{Names}
use Rattle.dhcid.proofs.Theorems.{choice}
use borrow.Author.Rules.{rules}
use Rattle.gateway.proofs.vichrelka_name.Goals as goal

pub returns : goal.returns
unfolding Tells Names
returns c = (c.locate.result, c.for_c.ensures.told, c.for_c.ensures.small, (_, choice _ _ _ _, c.locate.ensures))
