use Prim.Native.Nat.{◌+◌, ◌-◌}
use mathlib.Core.Path.{refl, ap, ◌∙◌}
use mathlib.Core.Logic.{inl}
use native.Mathlib.Omega.{arith}
use lib.ListN.{length}
use Rattle.name.specs.NotInLabel.{count_not_in_label}
use Rattle.name.proofs.LeadLaws.{lead_within}
use Rattle.name.proofs.ReadingLaws.{refused, invalid, no_bytes, too_long, no_last_dot, taken_over, word_in, reading_none, empty_label, long_label, some_left_over, reading_more, count_over, reading_all}
use Rattle.name_text.proofs.from_text.Goals as goal

pub returns-then-n-eq0 : goal.returns-then-n-eq0
returns-then-n-eq0 c =
    let w = c.args.word.now in
    refused w (λ n s. no_bytes w n s c.if-n-eq0.true)

pub returns-then-n-gt-LONGEST_TEXT : goal.returns-then-n-gt-LONGEST_TEXT
returns-then-n-gt-LONGEST_TEXT c =
    let w = c.args.word.now in
    refused w (λ n s. too_long w n s c.if-n-gt-LONGEST_TEXT.true)

pub returns-then-word-n-ne-DOT : goal.returns-then-word-n-ne-DOT
returns-then-word-n-ne-DOT c =
    let w = c.args.word.now in
    refused w (λ n s. no_last_dot w n (length w - 1) s (omega arith) c.if-word-n-ne-DOT.true)

pub loop-i-init : goal.loop-i-init
loop-i-init c =
    let w = c.args.word.now in
    let over = taken_over w _ 255 refl c.put_canonical.ensures in
    reading_none w _ _ over (c.count_not_in_label-left.ensures ∙ ap count_not_in_label (word_in w _ (length w + 1 - 1) (omega arith) over))

pub next_dot-end-requires : goal.next_dot-end-requires
next_dot-end-requires c = (c.loop-i-test.true, c.if-word-n-ne-DOT.false)

pub overflow_cast-size : goal.overflow_cast-size
overflow_cast-size c =
    let w = c.args.word.now in
    omega (arith, c.next_dot-end.ensures, lead_within w c.if-word-n-ne-DOT.false c.loop-i.i c.loop-i-test.true)

pub returns-then-size-eq0 : goal.returns-then-size-eq0
returns-then-size-eq0 c =
    let w = c.args.word.now in
    let l = c.loop-i in
    let none = empty_label w _ _ l.i l.invariant c.loop-i-test.true (omega (arith, c.next_dot-end.ensures, c.if-size-eq0.true)) in
    refused w (λ n s. invalid w n s none)

pub returns-then-size-gt-LONGEST_LABEL : goal.returns-then-size-gt-LONGEST_LABEL
returns-then-size-gt-LONGEST_LABEL c =
    let w = c.args.word.now in
    let l = c.loop-i in
    let none = long_label w _ _ l.i l.invariant c.loop-i-test.true c.if-word-n-ne-DOT.false (omega (arith, c.next_dot-end.ensures, c.if-size-gt-LONGEST_LABEL.true)) in
    refused w (λ n s. invalid w n s none)

pub overflow_sub-left : goal.overflow_sub-left
overflow_sub-left c =
    let l = c.loop-i in
    some_left_over _ _ _ l.i l.invariant c.loop-i-test.true c.if-word-n-ne-DOT.false

pub loop-i-preserved : goal.loop-i-preserved
loop-i-preserved c =
    let l = c.loop-i in
    reading_more _ _ _ l.i l.invariant c.loop-i-test.true c.if-word-n-ne-DOT.false _ c.next_dot-end.ensures c.if-size-eq0.false (omega arith)

pub returns-then-left-ne0 : goal.returns-then-left-ne0
returns-then-left-ne0 c =
    let w = c.args.word.now in
    let l = c.loop-i in
    refused w (λ n s. invalid w n s (count_over w _ _ l.i l.invariant c.loop-i-test.false c.if-left-ne0.true))

pub returns : goal.returns
returns c =
    let w = c.args.word.now in
    let l = c.loop-i in
    inl (reading_all w _ _ l.i l.invariant c.loop-i-test.false c.if-left-ne0.false (omega arith) (omega arith))
