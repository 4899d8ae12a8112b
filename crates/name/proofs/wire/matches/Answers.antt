use Prim.Native.Nat.{◌+◌}
use mathlib.Core.Path.{sym, ap, ◌∙◌}
use native.Mathlib.Omega.{arith}
use lib.ListN.{length}
use Rattle.base.proofs.Tests.{yes_by, no_by}
use Rattle.name.proofs.NameLaws.{length_canonical}
use Rattle.name.proofs.MatchLaws.{agree_same, agree_all}
use Rattle.name.proofs.wire.matches.Goals as goal

pub returns-then-name-held : goal.returns-then-name-held
returns-then-name-held c =
    let n = c.args.name.now in
    no_by (λ e. c.if-name-held.true (sym (length_canonical n) ∙ ap length e))

pub returns-then-not-matches_chunk : goal.returns-then-not-matches_chunk
returns-then-not-matches_chunk c =
    let n = c.args.name.now in
    let m = c.args.held.now in
    no_by (λ e. c.matches_chunk.ensures.if_false c.if-not-matches_chunk.true (agree_same n m e _ _))

pub returns-then-lower-held : goal.returns-then-lower-held
returns-then-lower-held c =
    let n = c.args.name.now in
    let m = c.args.held.now in
    let i = c.loop-i.i in
    no_by (λ e. c.if-lower-held.true (c.lower.ensures ∙ agree_same n m e i (i + 1) i (omega arith) (omega arith)))

pub returns : goal.returns
returns c =
    let n = c.args.name.now in
    let m = c.args.held.now in
    let l = c.loop-i in
    yes_by (agree_all n m l.i l.invariant (omega arith) c.if-name-held.false)
