use mathlib.Core.Path.{refl}
use borrow.Author.Rules.{rules}
use Rattle.writer.specs.Line.{Writable}
use Rattle.listing_check.specs.Printing.{put, none}
use Rattle.listing_check.proofs.NextLaws.{next_record, next_none}
use Rattle.listing_check.proofs.put_next.Goals as goal

pub put_line-requires : goal.put_line-requires
unfolding Writable
put_line-requires c =
    let n = next_record c.args.text.now c.args.at c.requires.printable c.step_at-step.result c.step_at-step.ensures c.in-Record.is in
    record { writable = (n.head, n.holds); longest_line_in_bounds = search rules }

pub returns-in-Record : goal.returns-in-Record
returns-in-Record c =
    let n = next_record c.args.text.now c.args.at c.requires.printable c.step_at-step.result c.step_at-step.ensures c.in-Record.is in
    put n.head n.rest n.given (c.put_line.ensures n.head n.holds) n.on n.goes_on

pub returns-in_default : goal.returns-in_default
returns-in_default c =
    none (next_none c.args.text.now c.args.at c.requires.printable c.step_at-step.result c.step_at-step.ensures c.in_default.not-Record) refl refl refl
