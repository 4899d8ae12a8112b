use mathlib.Core.Path.{sym, ◌∙◌}
use native.Mathlib.Omega.{arith}
use Rattle.base.proofs.Fill.{copied_more, copied_all}
use Rattle.name.specs.Name.{canonical}
use Rattle.name.proofs.NameLaws.{length_canonical, get_or_canonical}
use Rattle.name.proofs.wire.put_canonical.Goals as goal

pub loop-i-preserved : goal.loop-i-preserved
loop-i-preserved c =
    let a = c.args in
    let n = a.name.now in
    let i = c.loop-i.i in
    copied_more a.to.now a.at (canonical n) _ _ _ c.loop-i.invariant
    (c.lower.ensures ∙ sym (get_or_canonical n i)) (omega (arith, length_canonical n)) (omega (arith, length_canonical n))

pub returns : goal.returns
returns c =
    let a = c.args in
    let n = a.name.now in
    copied_all a.to.now a.at (canonical n) _ c.loop-i.i c.loop-i.invariant (omega (arith, length_canonical n))
