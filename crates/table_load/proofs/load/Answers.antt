use borrow.Author.Rules.{rules}
use Rattle.table_load.proofs.LoadLaws.{loads_refused, loadable}
use Rattle.table_load.proofs.load.Goals as goal

pub load_right-requires : goal.load_right-requires
load_right-requires c = let k = c.judge-judged in (search rules, loadable _ k.result k.ensures _ c.in-Accepted.is)

pub returns-in-Refused : goal.returns-in-Refused
returns-in-Refused c = let k = c.judge-judged in loads_refused _ k.result k.ensures _ _ c.in-Refused.is _
