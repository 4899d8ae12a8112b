use Rattle.message6.specs.Walking6.{nothing_seen}
use Rattle.message6.proofs.LevelSeen.none.Goals as goal

pub returns : goal.returns
unfolding nothing_seen
returns c = rw (c.none.ensures, c.none-2.ensures, c.none-3.ensures)
