use native.Mathlib.Omega.{arith}
use borrow.Author.Rules.{rules}
use Rattle.writer.specs.Line.{Writable}
use Rattle.listing_check.proofs.LineLaws.{never_refused, line_put}
use Rattle.listing_check.proofs.put_line.Goals as goal

pub overflow_add-result : goal.overflow_add-result
unfolding Writable
overflow_add-result c =
    let r = c.requires.writable.0 in
    let h = c.requires.writable.1 in
    let q = c.in-Accepted in
    let x = c.put_record in
    let e = x.ensures in
    let l = line_put r h.well_formed c.args.out.now c.args.used c.requires.longest_line_in_bounds x.result (e.value r h) q.n x.new.to q.is (e.to_after r h) in
    omega (arith, l.fits)

pub returns-in-Accepted : goal.returns-in-Accepted
returns-in-Accepted c = λ r h.
    let q = c.in-Accepted in
    let x = c.put_record in
    let e = x.ensures in
    line_put r h.well_formed c.args.out.now c.args.used c.requires.longest_line_in_bounds x.result (e.value r h) q.n x.new.to q.is (e.to_after r h)

pub returns-in-Refused : goal.returns-in-Refused
returns-in-Refused c = λ r h.
    let q = c.in-Refused in
    let x = c.put_record in
    absurd (never_refused r h.well_formed c.args.out.now c.args.used c.requires.longest_line_in_bounds x.result (x.ensures.value r h) _ _ q.is)
