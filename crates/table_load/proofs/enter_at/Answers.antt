use mathlib.Core.Path.{ap, ◌∙◌}
use lib.ListN.{take, drop}
use borrow.Author.Rules.{rules}
use Rattle.table.specs.Promise.{in_slot}
use Rattle.table.proofs.StepLaws.{slot_size_lem, put_in}
use Rattle.table_load.proofs.enter_at.Goals as goal

pub enter_record-requires : goal.enter_record-requires
enter_record-requires c =
    (ap (λ n. take n (drop c.args.at c.args.table.now)) (slot_size_lem c.args.at) ∙ c.requires.1, c.requires.2, c.requires.3)

pub returns : goal.returns
returns c =
    put_in c.args.table.now c.args.at _ ∙ ap (in_slot c.args.table.now c.args.at) c.enter_record.ensures
