use Prim.Native.Nat.{ℕ, ◌+◌, ◌<◌}
use mathlib.Core.Path.{sym, ap, ◌∙◌}
use native.Mathlib.Omega.{arith}
use lib.ListN.{length, drop}
use borrow.Author.Tests.{eqb-true}
use Rattle.base.proofs.Tests.{no_by}
use Rattle.name.specs.ProperTest.{accepts}
use Rattle.name.proofs.WireLaws.{proper_first, proper_short, proper_some, decided, at_zero, at_long_label, at_label, at_byte, at_other_byte, at_end_of_bytes}
use Rattle.name.proofs.wire.is_proper.Goals as goal
use Rattle.name.proofs.wire.is_proper.Goals.{then-is_empty-via-then-is_empty, then-is_empty-via-else-is_empty+then-name-gt-LONGEST, then-is_empty-via-else-is_empty+else-name-gt-LONGEST+then-name-eq0, then-left-eq0+else-b-eq0+else-b-gt-LONGEST_LABEL, else-left-eq0+else-not-is_label_byte}

pub returns-then-is_empty : goal.returns-then-is_empty
returns-then-is_empty c =
    no_by
    (λ p.
    elim c.then-is_empty.branch [
      | then-is_empty-via-then-is_empty w ↦ omega (arith, proper_some _ p, eqb-true _ _ (sym c.is_empty.ensures ∙ w.if-is_empty.true))
      | then-is_empty-via-else-is_empty+then-name-gt-LONGEST w ↦ omega (arith, proper_short _ p)
      | then-is_empty-via-else-is_empty+else-name-gt-LONGEST+then-name-eq0 w ↦ proper_first _ p w.if-name-eq0.true
    ])

pub returns-then-b-eq0 : goal.returns-then-b-eq0
returns-then-b-eq0 c =
    let n = c.args.name.now in
    let l = c.loop-i in
    decided n _
    (at_zero n l.i (omega arith) c.if-b-eq0.true ∙ ap (λ (k : ℕ). accepts k (drop l.i n)) (sym c.if-left-eq0.true) ∙ sym l.invariant.1)
    c.if-name-eq0.false (omega arith)

pub returns-then-b-gt-LONGEST_LABEL : goal.returns-then-b-gt-LONGEST_LABEL
returns-then-b-gt-LONGEST_LABEL c =
    let n = c.args.name.now in
    let l = c.loop-i in
    decided n _
    (at_long_label n l.i (omega arith) c.if-b-gt-LONGEST_LABEL.true ∙ ap (λ (k : ℕ). accepts k (drop l.i n)) (sym c.if-left-eq0.true) ∙ sym l.invariant.1)
    c.if-name-eq0.false (omega arith)

pub returns-then-not-is_label_byte : goal.returns-then-not-is_label_byte
returns-then-not-is_label_byte c =
    let n = c.args.name.now in
    let l = c.loop-i in
    decided n _
    (at_other_byte n l.i (omega arith) l.left c.if-left-eq0.false (sym c.is_label_byte.ensures ∙ c.if-not-is_label_byte.true) ∙ sym l.invariant.1)
    c.if-name-eq0.false (omega arith)

pub loop-i-preserved : goal.loop-i-preserved
loop-i-preserved c =
    let n = c.args.name.now in
    let l = c.loop-i in
    let more : l.i < length n = omega arith in (
      omega arith,
      l.invariant.1
          ∙ elim c.if-left-eq0.branch [
            | then-left-eq0+else-b-eq0+else-b-gt-LONGEST_LABEL w ↦
                ap (λ (k : ℕ). accepts k (drop l.i n)) w.if-left-eq0.true ∙ at_label n l.i more w.if-b-eq0.false w.if-b-gt-LONGEST_LABEL.false
                ∙ ap (λ (k : ℕ). accepts k (drop (l.i + 1) n)) (sym w.left-is)
            | else-left-eq0+else-not-is_label_byte w ↦
                at_byte n l.i more l.left w.if-left-eq0.false (sym w.is_label_byte.ensures ∙ w.if-not-is_label_byte.false)
                ∙ ap (λ (k : ℕ). accepts k (drop (l.i + 1) n)) (sym w.left-is)
          ],
    )

pub returns : goal.returns
returns c =
    let n = c.args.name.now in
    let l = c.loop-i in
    decided n _ (at_end_of_bytes n l.left l.i (omega arith) ∙ sym l.invariant.1) c.if-name-eq0.false (omega arith)
