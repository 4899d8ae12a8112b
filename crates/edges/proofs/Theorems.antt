-- The rows of specs/Rows.antt hold of the definitions. Assumes nothing.
use Rattle.edges.specs.Rows.{Hold}
use Rattle.edges.proofs.RowLaws.{all_hold}

-- every marked row of document 01's edges (docs/RULES.md, 9) holds
pub edges : Hold
edges = all_hold
