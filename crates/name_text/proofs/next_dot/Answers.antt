use native.Mathlib.Omega.{arith}
use Rattle.name.proofs.LeadLaws.{passing_byte, passing_dot, lead_within}
use Rattle.name_text.proofs.next_dot.Goals as goal

pub pass_chunks-i-requires : goal.pass_chunks-i-requires
pass_chunks-i-requires c = omega (arith, c.requires.0)

pub loop-i-init : goal.loop-i-init
loop-i-init c =
    let h = c.pass_chunks-i.ensures in
    record { from = h.0; within = omega (arith, h.1, lead_within c.args.word.now c.requires.1 c.args.at c.requires.0); low = h.1 }

pub bounds-word-i : goal.bounds-word-i
bounds-word-i c =
    omega (arith, c.loop-i.invariant.low, lead_within c.args.word.now c.requires.1 c.args.at c.requires.0)

pub loop-i-smaller : goal.loop-i-smaller
loop-i-smaller c =
    omega (arith, c.loop-i.invariant.low, lead_within c.args.word.now c.requires.1 c.args.at c.requires.0)

pub loop-i-preserved : goal.loop-i-preserved
loop-i-preserved c =
    let l = c.loop-i in
    passing_byte _ _ l.i l.invariant (omega (arith, l.invariant.low, lead_within c.args.word.now c.requires.1 c.args.at c.requires.0)) c.loop-i-test.true

pub returns : goal.returns
returns c = passing_dot _ _ c.loop-i.i c.loop-i.invariant c.loop-i-test.false
