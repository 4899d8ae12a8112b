use Prim.Native.Nat.{◌+◌}
use mathlib.Core.Path.{refl, ◌∙◌}
use native.Mathlib.Omega.{arith}
use Rattle.message4.proofs.WalkLaws4.{passed_none, passed_inside, no_end, passed_pad, passed_end, no_length, past_end, passed_option}
use Rattle.message4.proofs.read_options.Goals as goal

pub loop-i-init : goal.loop-i-init
loop-i-init c = passed_none c.args.message.now c.none-wanted.result c.requires c.none-wanted.ensures

pub judge-requires : goal.judge-requires
judge-requires c =
    let m = c.args.message.now in
    (c.requires, passed_inside m c.loop-i.i c.loop-i.wanted c.loop-i.invariant)

pub returns-then-code : goal.returns-then-code
returns-then-code c =
    let m = c.args.message.now in
    c.judge.ensures ∙ passed_end m c.loop-i.i c.loop-i.wanted c.loop-i.invariant (omega arith) c.if-code.true

pub loop-i-preserved-then-code-eq-PAD : goal.loop-i-preserved-then-code-eq-PAD
loop-i-preserved-then-code-eq-PAD c =
    let m = c.args.message.now in
    passed_pad m c.loop-i.i c.loop-i.wanted c.loop-i.invariant (omega arith) c.if-code-eq-PAD.true

pub returns-then-message-i-lt2 : goal.returns-then-message-i-lt2
returns-then-message-i-lt2 c =
    let m = c.args.message.now in
    let byte = c.type_inv.message c.loop-i.i in
    c.refused.ensures
    ∙ no_length m c.loop-i.i c.loop-i.wanted c.loop-i.invariant (omega arith) (omega arith) (omega arith) (omega arith)

pub overflow_cast-len : goal.overflow_cast-len
overflow_cast-len c =
    let m = c.args.message.now in
    omega (arith, c.type_inv.message (c.loop-i.i + 1))

pub returns-then-message-i : goal.returns-then-message-i
returns-then-message-i c =
    let m = c.args.message.now in
    let byte = c.type_inv.message c.loop-i.i in
    c.refused-then-message-i.ensures
    ∙ past_end m c.loop-i.i c.loop-i.wanted c.loop-i.invariant (omega arith) (omega arith) (omega arith) _ (omega arith) refl (omega arith)

pub loop-i-preserved : goal.loop-i-preserved
loop-i-preserved c =
    let m = c.args.message.now in
    let byte = c.type_inv.message c.loop-i.i in
    passed_option m c.loop-i.i c.loop-i.wanted c.loop-i.invariant (omega arith) (omega arith) (omega arith) _ (omega arith) refl (omega arith)
    c.noted-wanted.result c.noted-wanted.ensures

pub returns : goal.returns
returns c =
    let m = c.args.message.now in
    c.refused-2.ensures ∙ no_end m c.loop-i.i c.loop-i.wanted c.loop-i.invariant (omega arith)
