-- The reader of a level and the walker of its options call each other. The measure of both is how many bytes are left of the level: the walker begins
-- behind the header, and what it hands to the reader stands behind an option's first four bytes. Assumes nothing.
use Prim.Native.Nat.{◌-◌}
use Rattle.message6.proofs.+read_level_walk_options.Given as goal

abbrev pub decreases-read_level : goal.decreases-read_level
decreases-read_level l = l.end - l.start

abbrev pub decreases-walk_options : goal.decreases-walk_options
decreases-walk_options l = l.end - l.start
