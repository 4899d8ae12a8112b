use mathlib.Core.Path.{refl, sym}
use lib.Seq.{set_out}
use borrow.Author.Rules.{rules}
use Rattle.table_fault.proofs.note.Goals as goal

pub returns : goal.returns
returns c = (refl, sym (set_out _ _ _ c.if-count-slots.false))
