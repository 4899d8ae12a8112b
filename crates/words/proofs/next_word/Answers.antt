use Prim.Native.Nat.{◌+◌}
use mathlib.Core.Bool.{Bool}
use mathlib.Core.Path.{sym, ap, ◌∙◌}
use native.Mathlib.Omega.{arith}
use lib.ListN.{drop}
use Rattle.grammar.specs.Listing.{blank, line_end, opening, closing, not_allowed, outside, inside}
use Rattle.grammar.specs.Scan.{plain, scan}
use Rattle.words.specs.NextIs.{kind_meant, depth_of}
use Rattle.words.proofs.PieceLaws.{at_byte, at_comment, at_word, at_text_end_lem}
use Rattle.words.proofs.next_word.Goals as goal

pub loop-i-preserved-in-Blank : goal.loop-i-preserved-in-Blank
loop-i-preserved-in-Blank c =
    let t = c.args.text.now in
    let i = c.loop-i.i in
    let e = sym c.kind_of.ensures ∙ ap kind_meant c.in-Blank.is in
    record { from = omega arith; fits = omega arith; same = c.loop-i.invariant.same ∙ at_byte t i (omega arith) (depth_of c.loop-i.within) blank e }

pub returns-then-not-within : goal.returns-then-not-within
returns-then-not-within c =
    let t = c.args.text.now in
    let i = c.loop-i.i in
    let e = sym c.kind_of.ensures ∙ ap kind_meant c.in-LineEnd.is in
    record { after = omega arith; within = omega arith; ends = c.loop-i.invariant.same ∙ ap (λ (b : Bool). scan plain (depth_of b) (drop i t)) c.if-not-within.true ∙ at_byte t i (omega arith) outside line_end e }

pub loop-i-preserved-in-LineEnd : goal.loop-i-preserved-in-LineEnd
loop-i-preserved-in-LineEnd c =
    let t = c.args.text.now in
    let i = c.loop-i.i in
    let e = sym c.kind_of.ensures ∙ ap kind_meant c.in-LineEnd.is in
    let d = c.if-not-within.false in
    record {
      from = omega arith;
      fits = omega arith;
      same = c.loop-i.invariant.same ∙ ap (λ (b : Bool). scan plain (depth_of b) (drop i t)) (d) ∙ at_byte t i (omega arith) inside line_end e ∙ ap (λ (b : Bool). scan plain (depth_of b) (drop (i + 1) t)) (sym d);
    }

pub returns-then-within : goal.returns-then-within
returns-then-within c =
    let t = c.args.text.now in
    let i = c.loop-i.i in
    let e = sym c.kind_of.ensures ∙ ap kind_meant c.in-Opening.is in
    c.loop-i.invariant.same ∙ ap (λ (b : Bool). scan plain (depth_of b) (drop i t)) c.if-within.true ∙ at_byte t i (omega arith) inside opening e

pub loop-i-preserved-in-Opening : goal.loop-i-preserved-in-Opening
loop-i-preserved-in-Opening c =
    let t = c.args.text.now in
    let i = c.loop-i.i in
    let e = sym c.kind_of.ensures ∙ ap kind_meant c.in-Opening.is in
    record { from = omega arith; fits = omega arith; same = c.loop-i.invariant.same ∙ ap (λ (b : Bool). scan plain (depth_of b) (drop i t)) c.if-within.false ∙ at_byte t i (omega arith) outside opening e }

pub returns-then-not-within-2 : goal.returns-then-not-within-2
returns-then-not-within-2 c =
    let t = c.args.text.now in
    let i = c.loop-i.i in
    let e = sym c.kind_of.ensures ∙ ap kind_meant c.in-Closing.is in
    c.loop-i.invariant.same ∙ ap (λ (b : Bool). scan plain (depth_of b) (drop i t)) c.if-not-within-2.true ∙ at_byte t i (omega arith) outside closing e

pub loop-i-preserved-in-Closing : goal.loop-i-preserved-in-Closing
loop-i-preserved-in-Closing c =
    let t = c.args.text.now in
    let i = c.loop-i.i in
    let e = sym c.kind_of.ensures ∙ ap kind_meant c.in-Closing.is in
    record { from = omega arith; fits = omega arith; same = c.loop-i.invariant.same ∙ ap (λ (b : Bool). scan plain (depth_of b) (drop i t)) c.if-not-within-2.false ∙ at_byte t i (omega arith) inside closing e }

pub loop-i-smaller : goal.loop-i-smaller
loop-i-smaller c = omega (arith, c.comment_end-i.ensures.from, c.comment_end-i.ensures.within)

pub loop-i-preserved : goal.loop-i-preserved
loop-i-preserved c =
    let t = c.args.text.now in
    let i = c.loop-i.i in
    let e = sym c.kind_of.ensures ∙ ap kind_meant c.in-Semicolon.is in
    let r = c.comment_end-i.ensures in
    record {
      from = omega (arith, r.from);
      fits = r.within;
      same = c.loop-i.invariant.same ∙ at_comment t i (omega arith) (depth_of c.loop-i.within) c.comment_end-i.result e r;
    }

pub returns-in-Word : goal.returns-in-Word
returns-in-Word c =
    let t = c.args.text.now in
    let i = c.loop-i.i in
    let e = sym c.kind_of.ensures ∙ ap kind_meant c.in-Word.is in
    let r = c.word_end-end.ensures in
    let w = at_word t i (omega arith) (depth_of c.loop-i.within) c.word_end-end.result e r in
    record { from = omega arith; some = w.0; within = r.within; first = c.loop-i.invariant.same ∙ w.1 }

pub returns-in-NotAllowed : goal.returns-in-NotAllowed
returns-in-NotAllowed c =
    let t = c.args.text.now in
    let i = c.loop-i.i in
    let e = sym c.kind_of.ensures ∙ ap kind_meant c.in-NotAllowed.is in
    c.loop-i.invariant.same ∙ at_byte t i (omega arith) (depth_of c.loop-i.within) not_allowed e

pub returns-then-not-within-3 : goal.returns-then-not-within-3
returns-then-not-within-3 c =
    let t = c.args.text.now in
    let i = c.loop-i.i in
    c.loop-i.invariant.same ∙ ap (λ (b : Bool). scan plain (depth_of b) (drop i t)) c.if-not-within-3.true ∙ at_text_end_lem t i outside (omega arith)

pub returns : goal.returns
returns c =
    let t = c.args.text.now in
    let i = c.loop-i.i in
    c.loop-i.invariant.same ∙ ap (λ (b : Bool). scan plain (depth_of b) (drop i t)) c.if-not-within-3.false ∙ at_text_end_lem t i inside (omega arith)
