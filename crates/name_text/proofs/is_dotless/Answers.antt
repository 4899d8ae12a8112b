use mathlib.Core.Path.{sym, ◌∙◌}
use mathlib.Core.Bool.{true≢false}
use native.Mathlib.Omega.{arith}
use Rattle.name.proofs.LeadLaws.{dotless_none, dotless_more}
use Rattle.name_text.proofs.is_dotless.Goals as goal

pub loop-i-init : goal.loop-i-init
loop-i-init c = dotless_none _ _

pub bounds-word-at : goal.bounds-word-at
bounds-word-at c = let p = c.requires in omega (arith, p)

pub loop-i-preserved : goal.loop-i-preserved
loop-i-preserved c =
    dotless_more _ _ c.loop-i.dotless c.loop-i.i c.loop-i.invariant c.loop-i-test.true c.requires

pub returns : goal.returns
returns c =
    record {
      if_true = λ t. omega (arith, c.loop-i.invariant.forth t);
      if_false = λ f h. true≢false (sym (c.loop-i.invariant.back (omega (arith, h, c.loop-i.invariant.low))) ∙ f);
    }
