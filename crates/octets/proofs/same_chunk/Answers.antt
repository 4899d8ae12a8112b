use borrow.Author.Tests.{eqb-true, eqb-false}
use Rattle.octets.proofs.SameLaws.{passed_more, passed_all}
use Rattle.octets.proofs.same_chunk.Goals as goal

pub loop-i-preserved : goal.loop-i-preserved
loop-i-preserved c =
    passed_more _ _ _ c.requires.0 c.requires.1 _ c.loop-i.i c.loop-i.invariant c.loop-i-test.true

pub returns : goal.returns
returns c =
    record {
      if_true = λ t. passed_all _ _ _ c.requires.0 c.requires.1 c.loop-i.bits c.loop-i.i c.loop-i.invariant c.loop-i-test.false (eqb-true c.loop-i.bits 0 t);
      if_false = λ f e. eqb-false c.loop-i.bits 0 f (c.loop-i.invariant.back e);
    }
