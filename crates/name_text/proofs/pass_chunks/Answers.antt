use native.Mathlib.Omega.{arith}
use Rattle.name.proofs.LeadLaws.{passing_none, passing_more}
use Rattle.name_text.proofs.pass_chunks.Goals as goal

pub loop-i-init : goal.loop-i-init
loop-i-init c = passing_none _ _ c.requires

pub overflow_sub-word : goal.overflow_sub-word
overflow_sub-word c = c.loop-i.invariant.within

pub is_dotless-requires : goal.is_dotless-requires
is_dotless-requires c = omega (arith, c.loop-i.invariant.within, c.loop-i-test.true)

pub returns-then-not-is_dotless : goal.returns-then-not-is_dotless
returns-then-not-is_dotless c = let h = c.loop-i.invariant in (h.from, h.low)

pub loop-i-preserved : goal.loop-i-preserved
loop-i-preserved c =
    passing_more _ _ c.loop-i.i 16 c.loop-i.invariant (omega (arith, c.loop-i.invariant.within, c.loop-i-test.true))
    (c.is_dotless.ensures.if_true c.if-not-is_dotless.false)

pub returns : goal.returns
returns c = let h = c.loop-i.invariant in (h.from, h.low)
