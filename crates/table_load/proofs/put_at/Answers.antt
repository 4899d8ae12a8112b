use mathlib.Core.Path.{ap, ◌∙◌}
use lib.ListN.{take, drop}
use borrow.Author.Rules.{rules}
use Rattle.table.specs.Promise.{in_slot}
use Rattle.table.proofs.StepLaws.{slot_size_lem, put_in}
use Rattle.table_load.proofs.put_at.Goals as goal

pub put_record-requires : goal.put_record-requires
put_record-requires c = (rw (slot_size_lem c.args.at) c.requires.1, c.requires.2)

pub returns : goal.returns
returns c = λ e w form.
    put_in c.args.table.now c.args.at _
    ∙ ap (in_slot c.args.table.now c.args.at) (c.put_record.ensures e w (ap (λ n. take n (drop c.args.at c.args.table.now)) (slot_size_lem c.args.at) ∙ form))
