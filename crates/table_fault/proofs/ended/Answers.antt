use mathlib.Core.Bool.{Bool, cond}
use mathlib.Core.Path.{sym, ap}
use borrow.Author.Tests.{eq-eqb, ne_eqb}
use Rattle.table_fault.specs.declared.SweepOutcome.TheVariants.{Whole, Beyond}
use Rattle.table_fault.proofs.ended.Goals as goal

pub returns-then-rest-length : goal.returns-then-rest-length
returns-then-rest-length c = let a = c.args in sym (ap (λ (b : Bool). cond b Whole (Beyond a.rest)) (eq-eqb a.rest a.length c.if-rest-length.true))

pub returns : goal.returns
returns c = let a = c.args in sym (ap (λ (b : Bool). cond b Whole (Beyond a.rest)) (ne_eqb a.rest a.length c.if-rest-length.false))
