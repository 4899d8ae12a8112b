use native.Mathlib.Numerals.{add-one}
use mathlib.Core.Path.{◌∙◌}
use lib.ListN.{get_or}
use Rattle.sha256_block.specs.Block.{rounds, round}
use borrow.Author.Rules.{rules}
use Rattle.sha256_block.proofs.round_at.Goals as goal

pub returns : goal.returns
unfolding rounds
returns c = λ h e.
    rw add-one
    (c.round.ensures
    ∙ (λ i. round (get_or (c.requires.1 i) c.args.t 0) (get_or c.args.w.now c.args.t 0) (e i)))
