use Rattle.dhcid_text.specs.Base64.{group}
use Prim.Native.Nat.{◌+◌}
use mathlib.Core.Path.{◌∙◌}
use native.Mathlib.Omega.{arith}
use lib.ListN.{set, length-set}
use Rattle.dhcid_text.proofs.Base64Laws.{four_stored}
use Rattle.dhcid_text.proofs.put_group.Goals as goal

pub bounds-to-at-2 : goal.bounds-to-at-2
bounds-to-at-2 c = simp length-set (omega arith)

pub bounds-to-at-3 : goal.bounds-to-at-3
bounds-to-at-3 c = simp length-set (omega arith)

pub bounds-to-at-4 : goal.bounds-to-at-4
bounds-to-at-4 c = simp length-set (omega arith)

pub returns : goal.returns
unfolding group
returns c =
    let a = c.args in
    (λ i. set (set (set (set a.to.now a.at (c.digit64.ensures i)) (a.at + 1) (c.digit64-2.ensures i)) (a.at + 2) (c.digit64-3.ensures i)) (a.at + 3) a.fourth)
    ∙ four_stored a.to.now a.at _ _ _ a.fourth (omega arith)
