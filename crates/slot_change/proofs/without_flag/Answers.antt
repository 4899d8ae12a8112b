use mathlib.Core.Path.{sym, ◌∙◌}
use native.Mathlib.Omega.{arith}
use borrow.Author.Rules.{rules}
use Rattle.slots.proofs.EffectLaws.{set_reaches}
use Rattle.slot_change.proofs.without_flag.Goals as goal

pub overflow_sub-result : goal.overflow_sub-result
overflow_sub-result c = omega (arith, set_reaches c.args.bit c.args.flags (sym c.is_set.ensures ∙ c.if-is_set.true))

pub returns-then-is_set : goal.returns-then-is_set
returns-then-is_set c = rw (sym c.is_set.ensures ∙ c.if-is_set.true)

pub returns-else-is_set : goal.returns-else-is_set
returns-else-is_set c = rw (sym c.is_set.ensures ∙ c.if-is_set.false)
