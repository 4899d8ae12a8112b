use Rattle.std.proofs.Common.{ℕ, ◌+◌, ◌*◌, ◌≡◌, ◌∙◌, sym, ap, List, length, get_or, arith}
use Rattle.std.proofs.lemmas.List.{take_all}
use Rattle.base.proofs.Tests.{eq_eq_bytes, ne_eq_bytes}
use Rattle.octets.proofs.SameLaws.{chunk_more, chunk_differs}
use Rattle.octets.proofs.same.Goals as goal

pub returns-then-a-b : goal.returns-then-a-b
returns-then-a-b c = sym (ne_eq_bytes _ _ (λ e. c.if-a-b.true (ap length e)))

pub returns-then-not-same_chunk : goal.returns-then-not-same_chunk
returns-then-not-same_chunk c =
    chunk_differs _ _ (16 * c.loop-i.i) (c.same_chunk.ensures.if_false c.if-not-same_chunk.true)

pub loop-i-preserved : goal.loop-i-preserved
loop-i-preserved c =
    let i = c.loop-i.i in
    let more : 16 * (i + 1) ≡ 16 * i + 16 = omega arith in
    rw more (chunk_more _ _ (16 * i) c.loop-i.invariant (c.same_chunk.ensures.if_true c.if-not-same_chunk.false))

pub returns-then-a-i : goal.returns-then-a-i
returns-then-a-i c = sym (ne_eq_bytes _ _ (λ e. c.if-a-i.true (ap (λ (l : List ℕ). get_or l c.loop-i-2.i 0) e)))

pub returns : goal.returns
returns c =
    let l = c.loop-i-2 in
    sym (eq_eq_bytes _ _ (sym (take_all l.i _ (omega arith)) ∙ l.invariant ∙ take_all l.i _ (omega arith)))
